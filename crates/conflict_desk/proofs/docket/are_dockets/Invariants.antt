use Rattle.std.proofs.Common.{◌↔◌, length}
use Rattle.conflict_desk.specs.Desk.{AreDockets}
use Rattle.conflict_desk.proofs.docket.are_dockets.Given as goal

abbrev pub invariant-loop-docket : goal.invariant-loop-docket
invariant-loop-docket l = AreDockets l.rest ↔ AreDockets l.initial.dockets

abbrev pub decreases-loop-docket : goal.decreases-loop-docket
decreases-loop-docket l = length l.rest

use Rattle.std.proofs.Common.{◌≡◌, length}
use Rattle.conflict_desk.specs.inside.Links.{AreLinks}
use Rattle.conflict_desk.proofs.links.links_of.Given as goal

abbrev pub invariant-loop-case : goal.invariant-loop-case
invariant-loop-case l = record { links : AreLinks l.cases l.links.items; count : length l.links.items ≡ l.case-index }

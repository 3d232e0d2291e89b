use Rattle.std.proofs.Common.{◌≡◌, length}
use Rattle.lanes_in_turn.specs.Round.{has_twice, clients_of}
use Rattle.lanes_in_turn.proofs.checks.has_twice.Given as goal

abbrev pub invariant-loop-first : goal.invariant-loop-first
invariant-loop-first g l = has_twice (clients_of l.initial.uploads) ≡ has_twice (clients_of l.rest)

abbrev pub decreases-loop-first : goal.decreases-loop-first
decreases-loop-first g l = length l.rest

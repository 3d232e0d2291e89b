use Rattle.lanes_in_turn.specs.inside.{IsTogether}
use Rattle.lanes_in_turn.proofs.AloneLaws.{IsOnItsWay}
use Rattle.lanes_in_turn.proofs.alone.take_alone.Given as goal

abbrev pub invariant-loop : goal.invariant-loop
invariant-loop g l =
    (goal.iterator-loop g).can_next l.iterator' × (goal.iterator-loop g).is_finite l.iterator' × IsOnItsWay (g.H.Halt.allows l.halt) l.fn.lane l.lane l.items × IsTogether l.lane.1

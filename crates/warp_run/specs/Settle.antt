-- What decisions make of what was repaired: this project's own rule.
use Rattle.std.specs.Prelude.{List, [], ◌∷◌, ◌++◌, Ok, Err}
use Rattle.std.specs.Option.{option_map_or}
use Rattle.conflict_desk.specs.Desk.{Books, refusal, after_call, after_calls}
use Rattle.conflict_desk.specs.declared.decision.Decision.{Decision}
use Rattle.warp_run.specs.declared.repaired.PutDecision.{PutDecision}
use Rattle.warp_run.specs.declared.repaired.Repaired.{Repaired}

-- each with its answer, what the desk that those before it left has against it
abbrev pub put_on : Books → List Decision → List PutDecision
put_on desk [] = []
put_on desk (decision ∷ decisions) =
    record { decision = decision; answer = option_map_or Err (refusal decision.client decision.visit desk) (Ok tt) }
    ∷ put_on (after_call desk decision) decisions

-- the decisions put to the desk one after another, and kept with their answers
abbrev pub after_decisions : List Decision → Repaired → Repaired
after_decisions decisions repaired =
    let desk = repaired.desk in
    record repaired { desk = after_calls desk decisions; decided = repaired.decided ++ put_on desk decisions }

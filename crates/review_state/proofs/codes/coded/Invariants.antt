use Rattle.std.proofs.Common.{◌≡◌, map, take}
use Rattle.conflict_desk.specs.declared.docket.Case.{Case}
use Rattle.review_state.specs.Finding.{has_code}
use Rattle.review_state.proofs.codes.coded.Given as goal

abbrev pub invariant-loop-case : goal.invariant-loop-case
invariant-loop-case l =
    l.marks.items ≡ map (λ (case : Case). has_code l.code case.outcome) (take l.case-index l.case-items)

use Rattle.std.proofs.Common.{◌≡◌, nat_lt, Some, slice_get, ap, sym, subst, ◌∙◌, rules}
use Rattle.std.specs.Option.{IsSome}
use Rattle.std.proofs.lemmas.Bool.{false≢true}
use Rattle.std.proofs.lemmas.Option.{slice_get-get_or}
use Rattle.std.proofs.lemmas.List.Sorted.{IsPartitionPoint-from_clause, IsPartitionedBy-ltb}
use Rattle.conflict_desk.proofs.Places.{case_at, non_decreasing, not_there}
use Rattle.visit_view.proofs.numbered.place_of.Goals as goal

pub returns-in-Some : goal.returns-in-Some
returns-in-Some c =
    let found = c.in-Some.ensures.lookup in
    let at : slice_get c.args.cases.now c.partition_point-place.result ≡ Some c.in-Some.case.now =
    slice_get-get_or c.args.cases.now c.partition_point-place.result c.in-Some.case.now found.3.0 ∙ ap (λ case. Some case) (sym (found.3.1 c.in-Some.case.now)) in
    at ∙ sym (case_at c.args.cases.now c.requires c.args.number _ _ at c.if-case-number.true)

pub returns-in_default : goal.returns-in_default
returns-in_default c =
    let point = IsPartitionPoint-from_clause (λ v. nat_lt v.visit c.args.number) c.args.cases.now _ c.partition_point-place.ensures.partitioned
    (IsPartitionedBy-ltb (λ v. v.visit) _ c.args.number (non_decreasing _ c.requires)) (λ a r f called. search rules) in
    sym (not_there _ _ _ c.requires point (λ _ d here. c.if-case-number.false (ap (λ v. v.visit) (c.in-Some.ensures.lookup.3.1 d) ∙ here)))

pub returns-in_default-2 : goal.returns-in_default-2
returns-in_default-2 c =
    let point = IsPartitionPoint-from_clause (λ v. nat_lt v.visit c.args.number) c.args.cases.now _ c.partition_point-place.ensures.partitioned
    (IsPartitionedBy-ltb (λ v. v.visit) _ c.args.number (non_decreasing _ c.requires)) (λ a r f called. search rules) in
    sym (not_there _ _ _ c.requires point (λ within d here. absurd (false≢true (subst IsSome c.in_default.is (c.get.ensures.lookup.2 within)))))

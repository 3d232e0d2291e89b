use Rattle.std.proofs.Common.{ℕ, List, [], nat_lt, Option, subst, ap, ◌∙◌, rules}
use Rattle.std.specs.Option.{IsSome, option_map_or}
use Rattle.std.proofs.lemmas.Bool.{false≢true}
use Rattle.std.proofs.lemmas.List.Sorted.{IsPartitionPoint-from_clause, IsPartitionedBy-ltb}
use Rattle.client_log.specs.declared.visit.Visit.{Visit}
use Rattle.client_log.proofs.Places.{non_decreasing, found_there, none_there}
use Rattle.review_lists.proofs.Ascending.{in_order}
use Rattle.review_lists.proofs.addresses.visit_address.Goals.{in_default-via-in-Some+else-visit-number, in_default-via-in_default}
use Rattle.review_lists.proofs.addresses.visit_address.Goals as goal

told : Option Visit → List ℕ
told found = option_map_or (λ (visit : Visit). visit.address) found []

pub returns-in-Some : goal.returns-in-Some
unfolding told
returns-in-Some c =
    let up = in_order c.args.visits.now c.requires in
    let point = IsPartitionPoint-from_clause
    (λ v. nat_lt v.number c.args.number) c.args.visits.now _ c.partition_point-place.ensures.partitioned
    (IsPartitionedBy-ltb (λ v. v.number) _ c.args.number (non_decreasing _ up)) (λ a r f called. search rules) in
    let found = c.in-Some.ensures.lookup in
    c.as_str.ensures
    ∙ ap told (found_there _ _ _ up point c.in-Some.visit.now found.3.0 (found.3.1 c.in-Some.visit.now) c.if-visit-number.true)

pub returns-in_default : goal.returns-in_default
unfolding told
returns-in_default c =
    let up = in_order c.args.visits.now c.requires in
    let point = IsPartitionPoint-from_clause
    (λ v. nat_lt v.number c.args.number) c.args.visits.now _ c.partition_point-place.ensures.partitioned
    (IsPartitionedBy-ltb (λ v. v.number) _ c.args.number (non_decreasing _ up)) (λ a r f called. search rules) in
    ap told (none_there _ _ _ up point (λ within d here. elim c.in_default.branch [
      | in_default-via-in-Some+else-visit-number w ↦ w.if-visit-number.false (ap (λ v. v.number) (w.in-Some.ensures.lookup.3.1 d) ∙ here)
      | in_default-via-in_default w ↦ false≢true (subst IsSome w.in_default.is (c.get.ensures.lookup.2 within))
    ]))

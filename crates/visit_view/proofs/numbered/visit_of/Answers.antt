use Rattle.std.proofs.Common.{nat_lt, subst, ap, ◌∙◌, rules}
use Rattle.std.specs.Option.{IsSome}
use Rattle.std.proofs.lemmas.Bool.{false≢true}
use Rattle.std.proofs.lemmas.List.Sorted.{IsPartitionPoint-from_clause, IsPartitionedBy-ltb}
use Rattle.client_log.proofs.Places.{non_decreasing, found_there, none_there}
use Rattle.visit_view.proofs.InOrder.{in_pairs}
use Rattle.visit_view.proofs.numbered.visit_of.Goals.{in_default-via-in-Some+else-visit-number, in_default-via-in_default}
use Rattle.visit_view.proofs.numbered.visit_of.Goals as goal

pub returns-in-Some : goal.returns-in-Some
returns-in-Some c =
    let up = in_pairs _ c.requires in
    let point = IsPartitionPoint-from_clause (λ v. nat_lt v.number c.args.number) c.args.visits.now _ c.partition_point-place.ensures.partitioned
    (IsPartitionedBy-ltb (λ v. v.number) _ c.args.number (non_decreasing _ up)) (λ a r f called. search rules) in
    let found = c.in-Some.ensures.lookup in
    found_there _ _ _ up point c.in-Some.visit.now found.3.0 (found.3.1 c.in-Some.visit.now) c.if-visit-number.true

pub returns-in_default : goal.returns-in_default
returns-in_default c =
    let up = in_pairs _ c.requires in
    let point = IsPartitionPoint-from_clause (λ v. nat_lt v.number c.args.number) c.args.visits.now _ c.partition_point-place.ensures.partitioned
    (IsPartitionedBy-ltb (λ v. v.number) _ c.args.number (non_decreasing _ up)) (λ a r f called. search rules) in
    none_there _ _ _ up point (λ within d here. elim c.in_default.branch [
      | in_default-via-in-Some+else-visit-number w ↦ w.if-visit-number.false (ap (λ v. v.number) (w.in-Some.ensures.lookup.3.1 d) ∙ here)
      | in_default-via-in_default w ↦ false≢true (subst IsSome w.in_default.is (c.get.ensures.lookup.2 within))
    ])

use Rattle.std.proofs.Common.{rules, ap, subst, sym, ◌∙◌}
use Rattle.std.specs.Cmp.Lexicographic.{slice_cmp}
use Rattle.std.specs.List.Sorted.{IsSorted}
use Rattle.std.specs.Ordering.{nat_cmp}
use Rattle.std.proofs.lemmas.Fn.{always_returns_same}
use Rattle.visit_replay.specs.Outcome.{is_listed}
use Rattle.visit_replay.proofs.Sorting.{found_where_listed}
use Rattle.visit_replay.proofs.patch.Patch.lists.Goals as goal

pub returns : goal.returns
returns c =
    let address = c.args.address.now in
    let facts = c.binary_search_by.ensures in
    let by_bytes = facts.position (λ entry. slice_cmp nat_cmp entry address) (always_returns_same _ _ _ (λ a r f called. search rules)) in
    let sorted = subst (IsSorted (slice_cmp nat_cmp)) (sym c.deref.ensures.value) c.self.invariant in
    c.is_ok.ensures.value ∙ found_where_listed _ address _ sorted facts.bound by_bytes ∙ ap (λ addresses. is_listed addresses address) (c.deref.ensures.value ∙ c.self.view_is)

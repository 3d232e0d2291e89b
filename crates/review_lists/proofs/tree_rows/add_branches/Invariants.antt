use Rattle.std.proofs.Common.{◌≡◌, ◌++◌, drop}
use Rattle.std.specs.List.{flat_map}
use Rattle.review_lists.specs.ClientView.{branch_at}
use Rattle.review_lists.proofs.tree_rows.add_branches.Given as goal

abbrev pub invariant-loop-place : goal.invariant-loop-place
invariant-loop-place l = let rows = branch_at l.tree.client.now l.tree.docket.now l.tree.visits.now l.levels in
    l.out.items ++ flat_map rows (drop l.place-index l.places) ≡ l.initial.out.items ++ flat_map rows l.places

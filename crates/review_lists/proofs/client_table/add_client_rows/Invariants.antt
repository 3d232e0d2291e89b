use Rattle.std.proofs.Common.{◌≡◌, ◌++◌, drop}
use Rattle.std.specs.List.{flat_map}
use Rattle.review_lists.specs.Overview.{client_row}
use Rattle.review_lists.proofs.client_table.add_client_rows.Given as goal

abbrev pub invariant-loop-client : goal.invariant-loop-client
invariant-loop-client l = let rows = client_row l.desk in
    l.out.items ++ flat_map rows (drop l.client-index l.client-items) ≡ l.initial.out.items ++ flat_map rows l.client-items

use Rattle.std.proofs.Common.{◌≡◌, ◌<◌, ℕ, length}
use Rattle.page_tree.specs.inside.Rows.{line_in}
use Rattle.page_tree.proofs.table.NodeTable.same.Given as goal

abbrev pub invariant-loop-number : goal.invariant-loop-number
invariant-loop-number l = record {
  lengths : length l.self ≡ length l.other;
  before : (k : ℕ) → k < l.number → line_in k l.self ≡ line_in k l.other;
}

use Rattle.std.proofs.Common.{◌≡◌, drop}
use Rattle.page_tree.specs.Look.{value_of}
use Rattle.page_tree.proofs.tree.Attributes.get.Given as goal

abbrev pub invariant-loop-key : goal.invariant-loop-key
invariant-loop-key l = value_of l.name (drop l.key-index l.key-items) ≡ value_of l.name l.key-items

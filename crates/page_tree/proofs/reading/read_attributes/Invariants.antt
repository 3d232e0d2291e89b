use Rattle.std.proofs.Common.{◌≡◌, ◌++◌, option_map}
use Rattle.serde_json.specs.View.{members_view}
use Rattle.page_tree.specs.Value.{texts_of}
use Rattle.page_tree.proofs.reading.read_attributes.Given as goal

abbrev pub invariant-loop-name : goal.invariant-loop-name
invariant-loop-name l = option_map (λ rest. l.pairs.items ++ rest) (texts_of (members_view l.name-iterator)) ≡ texts_of (members_view l.initial.name-iterator)

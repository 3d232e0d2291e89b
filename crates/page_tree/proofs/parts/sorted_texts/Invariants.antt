use Rattle.std.proofs.Common.{◌≡◌, ◌++◌, option_map}
use Rattle.json_document.specs.Standing.{data_of}
use Rattle.page_tree.specs.Value.{texts_of}
use Rattle.page_tree.specs.inside.Walking.{members_kept, attributes_seen}
use Rattle.page_tree.proofs.parts.sorted_texts.Given as goal

abbrev pub invariant-loop-name : goal.invariant-loop-name
invariant-loop-name l =
    option_map (λ rest. attributes_seen l.pairs.items ++ rest) (texts_of (members_kept data_of l.name-iterator)) ≡ texts_of (members_kept data_of l.initial.name-iterator)

use Rattle.std.proofs.Common.{◌≡◌, ◌++◌, drop, option_map}
use Rattle.serde_json.specs.Find.{as_str}
use Rattle.serde_json.specs.View.{items_view}
use Rattle.site_line.specs.Members.{items_by}
use Rattle.site_line.proofs.reading.read_texts.Given as goal

abbrev pub invariant-loop-item : goal.invariant-loop-item
invariant-loop-item l = option_map (λ rest. l.texts.items ++ rest) (items_by as_str (items_view (drop l.item-index l.items))) ≡ items_by as_str (items_view l.items)

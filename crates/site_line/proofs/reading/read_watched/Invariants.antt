use Rattle.std.proofs.Common.{ℕ, List, ◌≡◌, ◌++◌, drop, None, option_map}
use Rattle.serde_json.specs.View.{items_view}
use Rattle.site_hooks.specs.Table.{table_page, watched_in}
use Rattle.site_line.specs.Members.{items_by}
use Rattle.site_line.specs.Site.{path_by_text}
use Rattle.site_line.proofs.reading.read_watched.Given as goal

abbrev pub invariant-loop-item : goal.invariant-loop-item
invariant-loop-item l = record {
  watched : option_map (λ rest. watched_in l.table ++ rest) (items_by path_by_text (items_view (drop l.item-index l.item-items))) ≡ items_by path_by_text (items_view l.item-items);
  pages : (address : List ℕ) → table_page l.table address ≡ None;
}

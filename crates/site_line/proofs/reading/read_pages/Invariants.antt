use Rattle.std.proofs.Common.{ℕ, List, ◌≡◌}
use Rattle.serde_json.specs.View.{members_view}
use Rattle.site_hooks.specs.Table.{table_page, watched_in}
use Rattle.site_line.specs.Site.{pages_among}
use Rattle.site_line.proofs.PagesAdded.{PagesSoFar}
use Rattle.site_line.proofs.reading.read_pages.Given as goal

abbrev pub invariant-loop-address : goal.invariant-loop-address
invariant-loop-address l = record {
  pages : (address : List ℕ) → PagesSoFar address (table_page l.table address) (pages_among (members_view l.address-iterator)) (pages_among (members_view l.initial.address-iterator));
  watched : watched_in l.table ≡ watched_in l.fn.table;
}

-- What each step makes of what was gathered.
use Rattle.std.specs.Prelude.{ℕ, List, Option}
use Rattle.site_hooks.specs.Table.{table_page, signals_in}
use Rattle.site_hooks.specs.declared.table.Table.{Table}
use Rattle.site_line.specs.Reading.{site_patch, site_table, site_same, site_decisions}
use Rattle.site_line.specs.declared.site.Site.{Site}
use Rattle.visit_replay.specs.RepairedSite.{RepairedSite}
use Rattle.lanes_in_turn.specs.declared.gathered.Gathered.{Gathered}
use Rattle.warp_run.specs.Repair.{repaired_of}
use Rattle.warp_run.specs.Settle.{after_decisions}
use Rattle.warp_run.specs.declared.repaired.Repaired.{Repaired}

-- the site with the pages and the watched texts of that table, with that patch, and how events find their places there
abbrev pub site_of_table : Table → List (List ℕ) → Option (List (List ℕ)) → RepairedSite
site_of_table table patch same = record
    { page_of = table_page table; signals = λ address. signals_in table; patch = patch; same = same }

abbrev pub repaired_site : Site → RepairedSite
repaired_site site = site_of_table (site_table site) (site_patch site) (site_same site)

-- replayed on the site, with its decisions made
abbrev pub site_settled : {R : Type 0} → Site → Gathered R → Repaired
site_settled site gathered = after_decisions (site_decisions site) (repaired_of (repaired_site site) gathered)

-- What clauses see of a site that was read, and which site it answers as.
use Rattle.std.specs.Prelude.{◌≡◌, ℕ, List, Option}
use Rattle.site_hooks.specs.Table.{table_page as page_at, watched_in}
use Rattle.site_hooks.specs.declared.table.Table.{Table}
use Rattle.visit_replay.specs.Outcome.{is_listed}
use Rattle.site_line.specs.Site.{Site as PlainSite, page_among}
use Rattle.site_line.specs.declared.parts.SiteParts.{SiteParts}
use Rattle.site_line.specs.declared.site.Site.{Site}
use Rattle.conflict_desk.specs.declared.decision.Decision.{Decision}

abbrev pub site_patch : Site → List (List ℕ)
site_patch site = site.patch

abbrev pub site_table : Site → Table
site_table site = site.table

abbrev pub site_same : Site → Option (List (List ℕ))
site_same site = site.finding

abbrev pub site_quota : Site → ℕ
site_quota site = site.quota

abbrev pub site_workers : Site → ℕ
site_workers site = site.workers

abbrev pub site_decisions : Site → List Decision
site_decisions site = site.decisions.items

-- it answers as that site does
pub record AnswersAs (site : Site) (plain : PlainSite) : Type 0 where
  pub patched : (address : List ℕ) → is_listed (site_patch site) address ≡ is_listed plain.patched address
  pub pages : (address : List ℕ) → page_at (site_table site) address ≡ page_among plain.pages address
  pub watched : watched_in (site_table site) ≡ plain.watched
  pub same : site_same site ≡ plain.same
  pub quota : site_quota site ≡ plain.quota
  pub workers : site_workers site ≡ plain.workers
  pub decisions : site_decisions site ≡ plain.decisions

-- they are what that site is made of
pub record ArePartsOfSite (parts : SiteParts) (plain : PlainSite) : Type 0 where
  pub patched : parts.patched.items ≡ plain.patched
  pub pages : (address : List ℕ) → page_at parts.table address ≡ page_among plain.pages address
  pub watched : watched_in parts.table ≡ plain.watched
  pub same : parts.finding ≡ plain.same
  pub quota : parts.quota ≡ plain.quota
  pub workers : parts.workers ≡ plain.workers
  pub decisions : parts.decisions.items ≡ plain.decisions

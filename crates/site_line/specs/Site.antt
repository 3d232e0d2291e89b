-- What a site line says: this project's own format, in JSON (RFC 8259).
use Rattle.std.specs.Prelude.{◌≡◌, ◌≤◌, ℕ, List, [], ◌∷◌, length, fold, Bool, true, if◌then◌else◌, Option, Some, None, IfSome, is_some, option_map, option_and_then, codes, IsUtf8}
use Rattle.std.specs.List.{list_any}
use Rattle.std.specs.Option.{option_map_or}
use Rattle.std.specs.Result.{result_ok}
use Rattle.std.specs.Str.{bytes_eq}
use Rattle.serde_json.specs.Data.{Data, Members, no_members, member}
use Rattle.serde_json.specs.Find.{get, as_str, as_array, as_object}
use Rattle.serde_json.specs.Read.{read}
use Rattle.page_tree.specs.Tree.{Tree}
use Rattle.page_tree.specs.Fault.{page_in}
use Rattle.xpath_child.specs.Path.{Step}
use Rattle.xpath_child.specs.Fault.{path_in}
use Rattle.client_log.specs.Quota.{IsQuota}
use Rattle.site_hooks.specs.Table.{is_changed}
use Rattle.visit_replay.specs.Limits.{AreWorkers}
use Rattle.site_line.specs.Members.{number_or, items_by, list_by}
use Rattle.site_line.specs.Decision.{decision_in}
use Rattle.conflict_desk.specs.declared.decision.Decision.{Decision}

-- a page beside its address
abbrev pub Entry : Type 0
Entry = List ℕ × Tree

-- The addresses whose visits are replayed, the pages of the repaired site, the paths to texts that must not have
-- changed, how events find their places there (by their paths, or by their elements with these fresh names), how much
-- is kept of each client, how many workers replay its visits, and what the administrator decided so far, in that order.
pub record Site : Type 0 where
  pub patched : List (List ℕ)
  pub pages : List Entry
  pub watched : List (List Step)
  pub same : Option (List (List ℕ))
  pub quota : ℕ
  pub workers : ℕ
  pub decisions : List Decision

-- ---- what a value stands for

-- the path that has the text
abbrev pub path_by_text : Data → Option (List Step)
path_by_text d = option_and_then (λ text. result_ok (path_in text)) (as_str d)

-- the pages at the members' names
abbrev pub pages_among : Members → Option (List Entry)
pages_among no_members = Some []
pages_among (member address d ms) =
    option_and_then (λ page. option_map (λ rest. (address, page) ∷ rest) (pages_among ms)) (page_in d)

-- the member `pages`, an object; no pages where it is absent
abbrev pub pages_in : Data → Option (List Entry)
pages_in d = option_and_then pages_among (option_map_or as_object (get (codes "pages") d) (Some no_members))

-- the member `same`, an array of names; events go by their paths where it is absent
abbrev pub same_in : Data → Option (Option (List (List ℕ)))
same_in d = option_map_or (λ names. option_map Some (option_and_then (items_by as_str) (as_array names)))
    (get (codes "same") d) (Some None)

-- how many names may be fresh: each pair of a query is compared with all of them
abbrev pub max_fresh : ℕ
max_fresh = 16

abbrev pub AreFewNames : Option (List (List ℕ)) → Type 0
AreFewNames same = IfSome same (λ names. length names ≤ max_fresh)

-- 1 MiB, in bytes: what is kept of a client where the site doesn't say; any quota would do
abbrev pub default_quota : ℕ
default_quota = 1048576

-- the member `quota`
abbrev pub quota_in : Data → Option ℕ
quota_in d = number_or default_quota (codes "quota") d

-- the member `workers`; 1 where it is absent
abbrev pub workers_in : Data → Option ℕ
workers_in d = number_or 1 (codes "workers") d

-- Unknown members are ignored, all members are optional. A value that stands for no site is `Z2`.
pub record IsSiteOf (d : Data) (site : Site) : Type 0 where
  pub object : is_some (as_object d) ≡ true
  pub patched : list_by as_str (codes "patched") d ≡ Some site.patched
  pub pages : pages_in d ≡ Some site.pages
  pub watched : list_by path_by_text (codes "watch") d ≡ Some site.watched
  pub same : (same_in d ≡ Some site.same) × AreFewNames site.same
  pub quota : (quota_in d ≡ Some site.quota) × IsQuota site.quota
  pub workers : (workers_in d ≡ Some site.workers) × AreWorkers site.workers
  pub decisions : list_by decision_in (codes "decide") d ≡ Some site.decisions

-- The line is the JSON text of the value, in UTF-8. A line of no value is `Z1`.
abbrev pub IsJsonOf : List ℕ → Data → Type 0
IsJsonOf line d = IsUtf8 line × (read line ≡ Some d)

-- the line is the JSON text of this site
abbrev pub IsSiteLine : List ℕ → Site → Type 0
IsSiteLine line site = (d : Data) × IsJsonOf line d × IsSiteOf d site

-- the value stands for no site
abbrev pub IsNoSite : Data → Type 0
IsNoSite d = (site : Site) → ¬ IsSiteOf d site

-- ---- its law

-- the last one of that address
abbrev pub page_among : List Entry → List ℕ → Option Tree
page_among entries address = fold (λ page entry. if bytes_eq entry.0 address then Some entry.1 else page) None entries

-- the page at just this address
abbrev pub page_of : Site → List ℕ → Option Tree
page_of site address = page_among site.pages address

-- some watched text is another on the old page than on the new
abbrev pub signals_of : Site → Tree → Tree → Bool
signals_of site old new = list_any (is_changed old new) site.watched

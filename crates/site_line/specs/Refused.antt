-- Which member of an object is why it is no site: the first in this order (this project's own rule). Each is `Z2`.
use Rattle.std.specs.Prelude.{ℕ, List, length, Bool, true, false, ◌&&◌, nat_le, Option, None, is_some, codes}
use Rattle.std.specs.Option.{option_map_or}
use Rattle.serde_json.specs.Data.{Data}
use Rattle.serde_json.specs.Find.{as_str}
use Rattle.page_tree.specs.FirstFault.{unless}
use Rattle.client_log.specs.Quota.{max_quota}
use Rattle.visit_replay.specs.Limits.{max_workers}
use Rattle.site_line.specs.Members.{list_by}
use Rattle.site_line.specs.Decision.{decision_in}
use Rattle.site_line.specs.Site.{path_by_text, pages_in, same_in, max_fresh, quota_in, workers_in}
use Rattle.site_line.specs.declared.refused.SiteMember.{SiteMember}
use Rattle.site_line.specs.declared.refused.SiteMember.TheVariants.{Patched, Pages, Watch, Same, Quota, Workers, Decide}

-- a number from 1 to that
abbrev pub is_within : ℕ → Option ℕ → Bool
is_within most number = option_map_or (λ n. nat_le 1 n && nat_le n most) number false

-- names that may be fresh, or that none are given, and not too many
abbrev pub is_few : Option (Option (List (List ℕ))) → Bool
is_few same = option_map_or (λ given. option_map_or (λ names. nat_le (length names) max_fresh) given true) same false

unfoldable pub refused_member : Data → Option SiteMember
refused_member d = unless (is_some (list_by as_str (codes "patched") d)) Patched
    (unless (is_some (pages_in d)) Pages
    (unless (is_some (list_by path_by_text (codes "watch") d)) Watch
    (unless (is_few (same_in d)) Same
    (unless (is_within max_quota (quota_in d)) Quota
    (unless (is_within max_workers (workers_in d)) Workers
    (unless (is_some (list_by decision_in (codes "decide") d)) Decide None))))))

-- its name
abbrev pub site_member_word : SiteMember → List ℕ
site_member_word Patched = codes "patched"
site_member_word Pages = codes "pages"
site_member_word Watch = codes "watch"
site_member_word Same = codes "same"
site_member_word Quota = codes "quota"
site_member_word Workers = codes "workers"
site_member_word Decide = codes "decide"

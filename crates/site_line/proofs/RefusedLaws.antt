-- An object has no member that is refused just where it is a site.
use Rattle.std.proofs.Common.{◌≡◌, ℕ, ◌≤◌, List, length, Bool, true, false, ◌&&◌, nat_le, Option, Some, None, is_some, refl, arith}
use Rattle.std.proofs.lemmas.Bool.Decides.{nat_tests}
use Rattle.serde_json.specs.Data.{Data}
use Rattle.serde_json.specs.Find.{as_object}
use Rattle.page_tree.specs.FirstFault.{unless}
use Rattle.client_log.specs.Quota.{max_quota}
use Rattle.visit_replay.specs.Limits.{max_workers}
use Rattle.site_line.specs.Refused.{is_few, is_within, refused_member}
use Rattle.site_line.specs.Site.{Site, IsSiteOf, AreFewNames, max_fresh}

within : (n most : ℕ) → 1 ≤ n → n ≤ most → (nat_le 1 n && nat_le n most) ≡ true
within n most some few = grind (arith, nat_tests)

at_least : (n most : ℕ) → (nat_le 1 n && nat_le n most) ≡ true → 1 ≤ n
at_least n most is = grind (arith, nat_tests)

at_most : (n most : ℕ) → (nat_le 1 n && nat_le n most) ≡ true → n ≤ most
at_most n most is = grind (arith, nat_tests)

few_names : (same : Option (List (List ℕ))) → AreFewNames same → is_few (Some same) ≡ true
few_names None few = refl
few_names (Some names) few = let most : length names ≤ max_fresh = few in grind (arith, nat_tests)

-- ---- a site has none

pub none_refused : (d : Data) (site : Site) → IsSiteOf d site → refused_member d ≡ None
unfolding refused_member
none_refused d site is =
    rw (
      is.patched,
      is.pages,
      is.watched,
      is.same.0,
      few_names site.same is.same.1,
      is.quota.0,
      is.workers.0,
      is.decisions,
      within site.quota max_quota is.quota.1.0 is.quota.1.1,
      within site.workers max_workers is.workers.1.some is.workers.1.few,
    ) refl

-- ---- an object that has none is a site

passed : {F : Type 0} (test : Bool) (fault : F) (later : Option F) → unless test fault later ≡ None → (test ≡ true) × (later ≡ None)
passed true fault later is = (refl, is)
passed false fault later is = cc

there : {A : Type 0} (found : Option A) → is_some found ≡ true → (x : A) × (found ≡ Some x)
there None is = cc
there (Some x) is = (x, refl)

number_there : (most : ℕ) (found : Option ℕ) → is_within most found ≡ true → (n : ℕ) × (found ≡ Some n) × (1 ≤ n) × (n ≤ most)
number_there most None is = cc
number_there most (Some n) is = (n, refl, at_least n most is, at_most n most is)

names_there : (found : Option (Option (List (List ℕ)))) → is_few found ≡ true → (same : Option (List (List ℕ))) × (found ≡ Some same) × AreFewNames same
names_there None is = cc
names_there (Some None) is = (None, refl, tt)
names_there (Some (Some names)) is = let few : length names ≤ max_fresh = grind (arith, nat_tests, is) in (Some names, refl, few)

pub site_of_unrefused : (d : Data) → is_some (as_object d) ≡ true → refused_member d ≡ None → (site : Site) × IsSiteOf d site
unfolding refused_member
site_of_unrefused d object none =
    let (patched, rest) = passed _ _ _ none in
    let (pages, rest) = passed _ _ _ rest in
    let (watch, rest) = passed _ _ _ rest in
    let (same, rest) = passed _ _ _ rest in
    let (quota, rest) = passed _ _ _ rest in
    let (workers, rest) = passed _ _ _ rest in
    let (decide, rest) = passed _ _ _ rest in
    let (addresses, patched_is) = there _ patched in
    let (entries, pages_are) = there _ pages in
    let (paths, watched_is) = there _ watch in
    let (fresh, same_is, few_are) = names_there _ same in
    let (bytes, quota_is, some, few) = number_there max_quota _ quota in
    let (count, workers_are, one, not_many) = number_there max_workers _ workers in
    let (decisions, decide_is) = there _ decide in (
      record { patched = addresses; pages = entries; watched = paths; same = fresh; quota = bytes; workers = count; decisions = decisions },
      record {
        object = object;
        patched = patched_is;
        pages = pages_are;
        watched = watched_is;
        same = (same_is, few_are);
        quota = (quota_is, (some, few));
        workers = (workers_are, record { some = one; few = not_many });
        decisions = decide_is;
      },
    )

-- What is kept of the paths that are watched, as one more comes.
use Rattle.std.proofs.Common.{◌≡◌, ℕ, inl, inr, Bool, true, false, ◌||◌, cond, List, [], ◌∷◌, ◌++◌, length, take, Option, Some, None, IsSome, option_map, Result, Ok, Err, string_bytes, refl, sym, ◌∙◌, ap, subst, arith}
use Rattle.std.specs.BTreeMap.{BTreeMap, get_by_text, Updates, IsUnchanged}
use Rattle.std.specs.Cmp.Lexicographic.{slice_cmp}
use Rattle.std.specs.List.{list_any}
use Rattle.std.specs.Map.{lookup}
use Rattle.std.specs.Option.{ForSome, option_to_list}
use Rattle.std.specs.Ordering.{nat_cmp, is_eq}
use Rattle.std.specs.Result.{OnOk, OnErr}
use Rattle.std.specs.Str.{bytes_eq}
use Rattle.std.specs.String.{string_cmp}
use Rattle.std.specs.declared.string.String.{String}
use Rattle.std.proofs.Math.Seq.{take-append_seam}
use Rattle.std.proofs.lemmas.Map.Text.{btree_map_updates_text}
use Rattle.std.proofs.lemmas.List.{take-append-le, take_all, length-append}
use Rattle.page_tree.specs.Tree.{Tree}
use Rattle.std.proofs.lemmas.List.Folds.{list_any-append, list_any_at}
use Rattle.xpath_child.specs.Path.{Step}
use Rattle.site_hooks.specs.Findings.{AreFound}
use Rattle.site_hooks.specs.Kept.{AddsPath, IsOfFirst}
use Rattle.site_hooks.specs.declared.findings.Findings.{Findings}
use Rattle.site_hooks.specs.declared.site_page.SitePage.{SitePage}

-- a list with each path once has one that passes where the whole list has
or_any : (x y : Bool) → (y ≡ true → x ≡ true) → (x || (y || false)) ≡ x
or_any true y h = refl
or_any false true h = let clash = h refl in cc
or_any false false h = refl

pub same_any : (test : List Step → Bool) (paths once now : List (List Step)) (path : List Step) → list_any test paths ≡ list_any test once → AddsPath once path now
    → list_any test (paths ++ path ∷ []) ≡ list_any test now
same_any test paths once now path same adds =
    list_any-append test paths (path ∷ []) ∙ ap (λ b. b || (test path || false)) same ∙ elim adds [
      | inl added ↦ sym (ap (list_any test) added ∙ list_any-append test once (path ∷ []))
      | inr there ↦ or_any (list_any test once) (test path) (λ yes. list_any_at test once there.1.0 path there.1.1 (ap test there.1.2 ∙ yes)) ∙ sym (ap (list_any test) there.0)
    ]

-- what was found by all of them
pub kept_whole : (paths : List (List Step)) (site_page : SitePage) (page : Tree) (found : Findings) → IsOfFirst paths site_page → site_page.watched ≡ length paths → site_page.page ≡ page → site_page.found ≡ Some found
    → AreFound page paths found
kept_whole paths site_page page found kept many same is =
    subst (λ p. AreFound p paths found) same
    (subst (λ ps. AreFound site_page.page ps found) (take_all site_page.watched paths (omega (arith, many))) (kept.1 found is))

-- what was found on a page is kept
still_kept : (once now : List (List Step)) (path : List Step) (site_page : SitePage) → AddsPath once path now → IsOfFirst once site_page → IsOfFirst now site_page
still_kept once now path site_page adds kept = elim adds [
  | inl added ↦ subst (λ paths. IsOfFirst paths site_page) (sym added) (
    omega (arith, kept.0, length-append once (path ∷ [])),
    λ found is. subst (λ paths. AreFound site_page.page paths found) (sym (take-append-le site_page.watched once (path ∷ []) kept.0)) (kept.1 found is),
  )
  | inr there ↦ subst (λ paths. IsOfFirst paths site_page) (sym there.0) kept
]

pub all_kept : (once now : List (List Step)) (path : List Step) (site_page : Option SitePage) → AddsPath once path now → ForSome site_page (IsOfFirst once) → ForSome site_page (IsOfFirst now)
all_kept once now path found adds kept = λ site_page is. still_kept once now path site_page adds (kept site_page is)

-- a path that was added and taken back
pub popped : (paths more left : List (List Step)) (path : List Step) (last : Option (List Step)) → more ≡ paths ++ path ∷ [] → more ≡ left ++ option_to_list last → IsSome last → left ≡ paths
popped paths more left path None is parts some = cc
popped paths more left path (Some x) is parts some =
    let same : length left ≡ length paths = omega (arith, ap length is, ap length parts, length-append paths (path ∷ []), length-append left (x ∷ [])) in
    sym (take-append_seam left (x ∷ [])) ∙ ap (take (length left)) (sym parts ∙ is) ∙ ap (λ n. take n (paths ++ path ∷ [])) same ∙ take-append_seam paths (path ∷ [])

-- ---- a page more

module _ {Y : Type 0} (old new : BTreeMap (String Y) SitePage) (site_page : SitePage) (paths : List (List Step)) where
  either_kept : (b : Bool) (o : Option SitePage) → IsOfFirst paths site_page → ForSome o (IsOfFirst paths) → ForSome (cond b (Some site_page) o) (IsOfFirst paths)
  either_kept true o here kept = λ found is. let same : site_page ≡ found = cc in subst (IsOfFirst paths) same here
  either_kept false o here kept = kept

  put_kept_at : {R E : Type 0} (result : Result R E) (key : String Y) → OnOk result (Updates string_cmp old new key (Some site_page)) → OnErr result (IsUnchanged old new) → IsOfFirst paths site_page
      → ((address : List ℕ) → ForSome (get_by_text old address) (IsOfFirst paths)) → (address : List ℕ) → ForSome (get_by_text new address) (IsOfFirst paths)
  put_kept_at (Ok r) key updates same here kept = λ address.
      subst (λ o. ForSome o (IsOfFirst paths)) (sym (btree_map_updates_text (string_bytes key) old new (Some site_page) updates address))
      (either_kept (bytes_eq (string_bytes key) address) (get_by_text old address) here (kept address))
  put_kept_at (Err e) key updates same here kept = λ address.
      subst (λ es. ForSome (lookup (λ k. is_eq (slice_cmp nat_cmp address (string_bytes k))) es) (IsOfFirst paths)) (sym same) (kept address)

pub put_kept : {Y R E : Type 0} (result : Result R E) (old new : BTreeMap (String Y) SitePage) (key : String Y) (site_page : SitePage) (paths : List (List Step))
    → OnOk result (Updates string_cmp old new key (Some site_page)) → OnErr result (IsUnchanged old new) → IsOfFirst paths site_page
    → ((address : List ℕ) → ForSome (get_by_text old address) (IsOfFirst paths)) → (address : List ℕ) → ForSome (get_by_text new address) (IsOfFirst paths)
put_kept result old new key site_page paths updates same here kept = put_kept_at old new site_page paths result key updates same here kept

pub page_put : (b : Bool) (site_page : SitePage) (page : Tree) (o : Option SitePage) → site_page.page ≡ page
    → option_map (λ s. s.page) (cond b (Some site_page) o) ≡ cond b (Some page) (option_map (λ s. s.page) o)
page_put true site_page page o is = ap Some is
page_put false site_page page o is = refl

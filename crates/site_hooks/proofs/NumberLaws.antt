-- The numbers of paths by their texts, as a path more comes.
use Rattle.std.proofs.Common.{◌≡◌, ◌≢◌, ℕ, ◌<◌, inl, inr, cond, List, [], ◌∷◌, ◌++◌, length, get_or, Some, string_bytes, refl, sym, ◌∙◌, ap, subst, arith, add-zero}
use Rattle.std.specs.BTreeMap.{BTreeMap, get_by_text, IsUnchanged}
use Rattle.std.specs.Cmp.Lexicographic.{slice_cmp}
use Rattle.std.specs.Map.{lookup}
use Rattle.std.specs.Ordering.{nat_cmp, is_eq}
use Rattle.std.specs.Str.{bytes_eq}
use Rattle.std.specs.declared.string.String.{String}
use Rattle.std.proofs.lemmas.Bool.{cases_lt, false_from_ne_true}
use Rattle.std.proofs.lemmas.List.{get_or_append_left, get_or-append-add, length-append}
use Rattle.std.proofs.lemmas.Slice.Eq.{bytes_eq-Decides}
use Rattle.xpath_child.specs.Path.{Step, path_text}
use Rattle.site_hooks.specs.Kept.{HaveNumbers}

pub unchanged_numbers : {Y : Type 0} (old new : BTreeMap (String Y) ℕ) (paths : List (List Step)) → IsUnchanged old new → HaveNumbers old paths → HaveNumbers new paths
unchanged_numbers old new paths same are =
    λ number less. subst (λ es. lookup (λ k. is_eq (slice_cmp nat_cmp (path_text (get_or paths number [])) (string_bytes k))) es ≡ Some number) (sym same) (are number less)

-- a text more, which none of the paths has
module _ {Y : Type 0} (old new : BTreeMap (String Y) ℕ) (paths : List (List Step)) (text : List ℕ) (n : ℕ) (are : HaveNumbers old paths)
    (fresh : (number : ℕ) → number < length paths → path_text (get_or paths number []) ≢ text)
    (updates : (other : List ℕ) → get_by_text new other ≡ cond (bytes_eq text other) (Some n) (get_by_text old other)) where
  pub still_numbered : HaveNumbers new paths
  still_numbered number less =
      let its_text = path_text (get_or paths number []) in
      updates its_text ∙ ap (λ b. cond b (Some n) (get_by_text old its_text)) (false_from_ne_true _ (λ same. fresh number less (sym ((bytes_eq-Decides text its_text).0 same)))) ∙ are number less

  pub added_number : (path : List Step) → path_text path ≡ text → n ≡ length paths → HaveNumbers new (paths ++ path ∷ [])
  added_number path is last number less = elim (cases_lt number (length paths)) [
    | inl before ↦ ap (λ p. get_by_text new (path_text p)) (get_or_append_left paths (path ∷ []) [] number before) ∙ still_numbered number before
    | inr past ↦
        let there : number ≡ length paths = omega (arith, less, past, length-append paths (path ∷ [])) in
        ap (λ p. get_by_text new (path_text p)) (ap (λ k. get_or (paths ++ path ∷ []) k []) (there ∙ sym (add-zero (length paths))) ∙ get_or-append-add paths (path ∷ []) 0 [])
        ∙ ap (get_by_text new) is ∙ updates text ∙ ap (λ b. cond b (Some n) (get_by_text old text)) ((bytes_eq-Decides text text).1 refl) ∙ ap Some (last ∙ sym there)
  ]

-- What is found in one after another.
use Rattle.std.proofs.Common.{◌≡◌, ℕ, ◌+◌, ◌<◌, ◌≤◌, List, [], ◌∷◌, ◌++◌, length, get_or, drop, drop-cons, add-one, append-nil, append_assoc, refl, sym, ap, subst, ◌∙◌}
use Rattle.std.specs.List.{flat_map}
use Rattle.std.proofs.lemmas.List.{drop_all}
use Rattle.review_lists.specs.inside.FoundPages.{IsFoundPage, AddsFinds}
use Rattle.review_lists.specs.declared.found_page.FoundPage.{FoundPage}

pub then_finds : (a b c : FoundPage) (xs ys zs : List (List ℕ)) → AddsFinds a b xs → AddsFinds b c ys → xs ++ ys ≡ zs → AddsFinds a c zs
then_finds a b c xs ys zs first rest is = λ from finds was.
    subst (λ all. IsFoundPage from all c) (append_assoc finds xs ys ∙ ap (λ more. finds ++ more) is)
    (rest from (finds ++ xs) (first from finds was))

pub no_finds : (a : FoundPage) (xs : List (List ℕ)) → xs ≡ [] → AddsFinds a a xs
no_finds a xs none = λ from finds was.
    subst (λ all. IsFoundPage from all a) (sym (append-nil finds) ∙ ap (λ more. finds ++ more) (sym none)) was

-- those of one, and of the ones behind it
pub finds_here : {A B : Type 0} (finds : A → List B) (xs : List A) (i : ℕ) (x : A) → i < length xs → x ≡ get_or xs i x
    → finds x ++ flat_map finds (drop (i + 1) xs) ≡ flat_map finds (drop i xs)
finds_here finds xs i x below is =
    let here : drop i xs ≡ x ∷ drop (i + 1) xs = rw (add-one, drop-cons xs i x below, ← is) refl in ap (flat_map finds) (sym here)

pub finds_end : {A B : Type 0} (finds : A → List B) (xs : List A) (i : ℕ) → length xs ≤ i → flat_map finds (drop i xs) ≡ []
finds_end finds xs i past = ap (flat_map finds) (drop_all i xs past)

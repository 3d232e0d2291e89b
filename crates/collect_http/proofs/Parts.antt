-- What some parts of a text give.
use Rattle.std.proofs.Common.{◌≡◌, ℕ, suc, ◌<◌, List, [], ◌∷◌, ◌++◌, length, take, drop, get_or, Option, Some, None, bytes_eq, filter_map, sym, ap, ◌∙◌, append-nil, drop-cons}
use Rattle.std.specs.List.{cons_option, slice_get}
use Rattle.std.specs.Option.{option_map_or}
use Rattle.indexmap.specs.IndexSet.{insert_key, insert_all}
use Rattle.std.proofs.lemmas.List.{take-append-drop}
use Rattle.std.proofs.lemmas.List.Elements.{filter_map-append}
use Rattle.std.proofs.lemmas.List.Sums.{fold-append}
use Rattle.collect_http.specs.Asking.{first_given}

-- a list at a place
pub at_place : {X : Type 0} (all front : List X) (n : ℕ) (x : X) → front ≡ take n all → n < length all → x ≡ get_or all n x → all ≡ front ++ x ∷ drop (suc n) all
at_place all front n x is more here =
    sym (take-append-drop n all) ∙ ap (λ f. f ++ drop n all) (sym is) ∙ ap (λ d. front ++ d) (drop-cons all n x more ∙ ap (λ y. y ∷ drop (suc n) all) (sym here))

module _ {X Y : Type 0} (f : X → Option Y) where
  pub none_more : (xs : List X) (x : X) → filter_map f xs ≡ [] → f x ≡ None → filter_map f (xs ++ x ∷ []) ≡ []
  none_more xs x none gives =
      filter_map-append f xs (x ∷ []) ∙ ap (λ front. front ++ filter_map f (x ∷ [])) none ∙ ap (λ o. cons_option o []) gives

  pub first_is : (all xs rest : List X) (x : X) (y : Y) → all ≡ xs ++ x ∷ rest → filter_map f xs ≡ [] → f x ≡ Some y → first_given f all ≡ Some y
  first_is all xs rest x y split none gives =
      ap (λ a. slice_get (filter_map f a) 0) split
      ∙ ap (λ a. slice_get a 0) (filter_map-append f xs (x ∷ rest) ∙ ap (λ front. front ++ filter_map f (x ∷ rest)) none ∙ ap (λ o. cons_option o (filter_map f rest)) gives)

  pub first_none : (all xs : List X) → all ≡ xs → filter_map f xs ≡ [] → first_given f all ≡ None
  first_none all xs same none = ap (λ a. slice_get (filter_map f a) 0) same ∙ ap (λ a. slice_get a 0) none

-- all that they give, each once
pub one_inserted : (f : List ℕ → Option (List ℕ)) (xs : List (List ℕ)) (x : List ℕ) (old new : List (List ℕ)) → old ≡ insert_all bytes_eq [] (filter_map f xs)
    → new ≡ option_map_or (insert_key bytes_eq old) (f x) old → new ≡ insert_all bytes_eq [] (filter_map f (xs ++ x ∷ []))
one_inserted f xs x old new so_far now = now ∙ by_given (f x) ∙ sym (ap (insert_all bytes_eq []) (filter_map-append f xs (x ∷ [])))
  where
    by_given : (o : Option (List ℕ)) → option_map_or (insert_key bytes_eq old) o old ≡ insert_all bytes_eq [] (filter_map f xs ++ cons_option o [])
    by_given None = so_far ∙ ap (insert_all bytes_eq []) (sym (append-nil (filter_map f xs)))
    by_given (Some y) = ap (λ ks. insert_key bytes_eq ks y) so_far ∙ sym (fold-append (insert_key bytes_eq) [] (filter_map f xs) (y ∷ []))

-- Elements by their places, and the first that passes a test.
use Rattle.std.proofs.Common.{◌≡◌, ℕ, zero, suc, ◌<◌, List, [], ◌∷◌, ◌++◌, length, Bool, true, false, Some, None, slice_get, inl, inr, ◌⊎◌, ap, sym, refl, ◌∙◌, arith}
use Rattle.std.specs.List.{find, position_or_len}
use Rattle.std.proofs.lemmas.Bool.{cases_lt}
use Rattle.std.proofs.lemmas.List.Folds.{find_at}
use Rattle.std.proofs.lemmas.List.Sums.{fails_before_first, passes_at_first, position_or_len_is}
use Rattle.std.proofs.lemmas.Option.{same_Some, slice_get_within, slice_get-get_or, get_or_from_slice_get}

module _ {X : Type 0} where
  pub not_none : (x : X) → Some x ≡ None → ⊥
  not_none x is = cc is

  pub there_is : (xs : List X) (k : ℕ) → k < length xs → (x : X) × (slice_get xs k ≡ Some x)
  there_is [] k within = absurd (omega (arith, within))
  there_is (y ∷ xs) zero within = (y, refl)
  there_is (y ∷ xs) (suc k) within = there_is xs k (omega (arith, within))

  pub still_at : (xs ys : List X) (k : ℕ) (x : X) → slice_get xs k ≡ Some x → slice_get (xs ++ ys) k ≡ Some x
  still_at [] ys k x at = absurd (not_none x (sym at))
  still_at (y ∷ xs) ys zero x at = at
  still_at (y ∷ xs) ys (suc k) x at = still_at xs ys k x at

  pub at_push : (xs : List X) (z : X) (k : ℕ) (x : X) → slice_get (xs ++ z ∷ []) k ≡ Some x → (slice_get xs k ≡ Some x) ⊎ ((k ≡ length xs) × (z ≡ x))
  at_push [] z zero x at = inr (refl, same_Some z x at)
  at_push [] z (suc k) x at = absurd (not_none x (sym at))
  at_push (y ∷ xs) z zero x at = inl at
  at_push (y ∷ xs) z (suc k) x at = grind (arith, at_push xs z k x at)

  pub at_end : (xs : List X) (z : X) → slice_get (xs ++ z ∷ []) (length xs) ≡ Some z
  at_end [] z = refl
  at_end (y ∷ xs) z = at_end xs z

module _ {X : Type 0} (p : X → Bool) where
  pub find_passes : (xs : List X) (x : X) → find p xs ≡ Some x → p x ≡ true
  find_passes xs x found =
      let at = sym (find_at p xs) ∙ found in
      grind (arith, passes_at_first p xs x, slice_get_within xs (position_or_len p xs) x at, get_or_from_slice_get xs (position_or_len p xs) x x at)

  pub find_is : (xs : List X) (k : ℕ) (x : X) → slice_get xs k ≡ Some x → p x ≡ true → ((j : ℕ) (y : X) → j < k → slice_get xs j ≡ Some y → p y ≡ false) → find p xs ≡ Some x
  find_is xs k x at is before =
      let within = slice_get_within xs k x at in
      let first = position_or_len_is p xs k x (omega (arith, within))
      (λ j less. before j _ less (slice_get-get_or xs j x (omega (arith, less, within)))) (λ _. ap p (get_or_from_slice_get xs k x x at) ∙ is) in
      find_at p xs ∙ ap (slice_get xs) first ∙ at

  pub find_none : (xs : List X) → ((j : ℕ) (y : X) → slice_get xs j ≡ Some y → p y ≡ false) → find p xs ≡ None
  find_none [] all = refl
  find_none (y ∷ xs) all = grind (arith, all 0 y refl, find_none xs (λ j z here. all (suc j) z here))

  -- it stands at a place before which none passes
  pub record IsFirst (xs : List X) (x : X) : Type 0 where
    pub place : ℕ
    pub at : slice_get xs place ≡ Some x
    pub before : (j : ℕ) (y : X) → j < place → slice_get xs j ≡ Some y → p y ≡ false

  pub find_where : (xs : List X) (x : X) → find p xs ≡ Some x → IsFirst xs x
  find_where xs x found = record {
    place = position_or_len p xs;
    at = sym (find_at p xs) ∙ found;
    before = λ j y less here. ap p (sym (get_or_from_slice_get xs j y y here)) ∙ fails_before_first p xs j y less;
  }

  pub none_passes : (xs : List X) (k : ℕ) (x : X) → find p xs ≡ None → slice_get xs k ≡ Some x → p x ≡ false
  none_passes xs k x none here =
      let at = sym (find_at p xs) ∙ none in
      grind (arith, slice_get-get_or xs (position_or_len p xs) x, slice_get_within xs k x here, get_or_from_slice_get xs k x x here, fails_before_first p xs k x, cases_lt k (position_or_len p xs))

-- How far two texts are the same, one place after another, and what is the same then.
use Rattle.std.proofs.Common.{◌≡◌, ◌≢◌, ℕ, zero, suc, ◌+◌, ◌-◌, ◌<◌, ◌≤◌, min, inl, inr, List, [], ◌∷◌, length, get_or, take, drop, ◌++◌, Bool, true, false, cond, refl, sym, ap, ◌∙◌, arith, nat_eq}
use Rattle.std.specs.Prelude.{reverse}
use Rattle.std.proofs.lemmas.List.{drop_all, same_lists, get_or-drop, get_or-take, get_or-reverse, length-drop, length-reverse, take-append-drop}
use Rattle.std.proofs.lemmas.List.Sums.{common_prefix_len-le, common_prefix_len-drop_yes, common_prefix_len-drop_no}
use Rattle.std.proofs.lemmas.Bool.{eq-eqb, ne_eqb, eqb-true, cases_order}
use Rattle.text_difference.specs.Difference.{common_front, common_end}

-- ---- one place after another

-- the texts are the same up to there
abbrev pub IsFar : List ℕ → List ℕ → ℕ → Type 0
IsFar xs ys i = i + common_front (drop i xs) (drop i ys) ≡ common_front xs ys

pub one_further : (xs ys : List ℕ) (i : ℕ) → i < length xs → i < length ys → get_or xs i 0 ≡ get_or ys i 0
    → IsFar xs ys i → IsFar xs ys (i + 1)
one_further xs ys i in_xs in_ys same far =
    let step = common_prefix_len-drop_yes nat_eq xs ys i 0 0 in_xs in_ys (eq-eqb _ _ same) in omega (arith, step, far)

pub no_further : (xs ys : List ℕ) (i : ℕ) → i < length xs → i < length ys → get_or xs i 0 ≢ get_or ys i 0
    → IsFar xs ys i → i ≡ common_front xs ys
no_further xs ys i in_xs in_ys other far =
    let step = common_prefix_len-drop_no nat_eq xs ys i 0 0 in_xs in_ys (ne_eqb _ _ other) in omega (arith, step, far)

nothing_alike : (xs : List ℕ) → common_front xs [] ≡ 0
nothing_alike [] = refl
nothing_alike (x ∷ xs) = refl

past_the_first : (xs ys : List ℕ) (i : ℕ) → length xs ≤ i → IsFar xs ys i → i ≡ common_front xs ys
past_the_first xs ys i past far =
    let step = ap (λ rest. common_front rest (drop i ys)) (drop_all i xs past) in omega (arith, step, far)

past_the_second : (xs ys : List ℕ) (i : ℕ) → length ys ≤ i → IsFar xs ys i → i ≡ common_front xs ys
past_the_second xs ys i past far =
    let step = ap (λ rest. common_front (drop i xs) rest) (drop_all i ys past) ∙ nothing_alike (drop i xs) in
    omega (arith, step, far)

pub at_an_end : (xs ys : List ℕ) (i : ℕ) → min (length xs) (length ys) ≤ i → IsFar xs ys i → i ≡ common_front xs ys
at_an_end xs ys i past far = elim (cases_order (length xs) (length ys)) [
  | inl same ↦ past_the_first xs ys i (omega arith) far
  | inr (inl less) ↦ past_the_first xs ys i (omega arith) far
  | inr (inr more) ↦ past_the_second xs ys i (omega arith) far
]

-- the same from the ends of the texts

abbrev pub IsFarBack : List ℕ → List ℕ → ℕ → Type 0
IsFarBack xs ys i = IsFar (reverse xs) (reverse ys) i

module _ (xs ys : List ℕ) (i : ℕ) (in_xs : i < length xs) (in_ys : i < length ys) (far : IsFarBack xs ys i) where
  pub one_further_back : get_or xs (length xs - 1 - i) 0 ≡ get_or ys (length ys - 1 - i) 0 → IsFarBack xs ys (i + 1)
  one_further_back same =
      one_further (reverse xs) (reverse ys) i (omega (arith, length-reverse xs)) (omega (arith, length-reverse ys))
      (get_or-reverse xs i 0 in_xs ∙ same ∙ sym (get_or-reverse ys i 0 in_ys)) far

  pub no_further_back : get_or xs (length xs - 1 - i) 0 ≢ get_or ys (length ys - 1 - i) 0 → i ≡ common_end xs ys
  no_further_back other =
      no_further (reverse xs) (reverse ys) i (omega (arith, length-reverse xs)) (omega (arith, length-reverse ys))
      (λ is. other (sym (get_or-reverse xs i 0 in_xs) ∙ is ∙ get_or-reverse ys i 0 in_ys)) far

pub at_an_end_back : (xs ys : List ℕ) (i : ℕ) → min (length xs) (length ys) ≤ i → IsFarBack xs ys i → i ≡ common_end xs ys
at_an_end_back xs ys i past far =
    at_an_end (reverse xs) (reverse ys) i (omega (arith, length-reverse xs, length-reverse ys)) far

-- ---- what is the same

front_step : (x y : ℕ) (xs ys : List ℕ) (k : ℕ) (same : Bool) → nat_eq x y ≡ same
    → suc k ≤ cond same (1 + common_front xs ys) 0 → (k ≤ common_front xs ys → take k xs ≡ take k ys)
    → take (suc k) (x ∷ xs) ≡ take (suc k) (y ∷ ys)
front_step x y xs ys k true is within more = ap (λ z. z ∷ take k xs) (eqb-true x y is) ∙ ap (λ zs. y ∷ zs) (more (omega arith))
front_step x y xs ys k false is within more = absurd (omega arith)

pub front_alike : (xs ys : List ℕ) (k : ℕ) → k ≤ common_front xs ys → take k xs ≡ take k ys
front_alike xs ys zero within = refl
front_alike [] ys (suc k) within = absurd (omega arith)
front_alike (x ∷ xs) [] (suc k) within = absurd (omega arith)
front_alike (x ∷ xs) (y ∷ ys) (suc k) within = front_step x y xs ys k (nat_eq x y) refl within (front_alike xs ys k)

at_end : (xs : List ℕ) (k j d : ℕ) → k ≤ length xs → j < k
    → get_or (drop (length xs - k) xs) j d ≡ get_or (take k (reverse xs)) (k - 1 - j) d
at_end xs k j d within below =
    let from_front = get_or-drop (length xs - k) xs j d in
    let back = get_or-reverse xs (k - 1 - j) d (omega arith) in
    let kept = get_or-take k (reverse xs) (k - 1 - j) d (omega arith) in
    let at : length xs - 1 - (k - 1 - j) ≡ length xs - k + j = omega arith in
    from_front ∙ sym (ap (λ i. get_or xs i d) at) ∙ sym back ∙ sym kept

pub end_alike : (xs ys : List ℕ) (k : ℕ) → k ≤ common_end xs ys → drop (length xs - k) xs ≡ drop (length ys - k) ys
end_alike xs ys k within =
    let most = common_prefix_len-le nat_eq (reverse xs) (reverse ys) in
    let in_xs : k ≤ length xs = omega (arith, most, length-reverse xs) in
    let in_ys : k ≤ length ys = omega (arith, most, length-reverse ys) in
    let same = front_alike (reverse xs) (reverse ys) k within in
    same_lists _ _ (omega (arith, length-drop (length xs - k) xs, length-drop (length ys - k) ys))
    (λ j d here. let below : j < k = omega (arith, length-drop (length xs - k) xs, here) in
    at_end xs k j d in_xs below ∙ ap (λ zs. get_or zs (k - 1 - j) d) same ∙ sym (at_end ys k j d in_ys below))

-- ---- the texts in parts

pub front_joined : (old new : List ℕ) (k : ℕ) → k ≤ common_front old new → take k old ++ drop k new ≡ new
front_joined old new k front = rw (front_alike old new k front) (take-append-drop k new)

pub end_joined : (old new : List ℕ) (k : ℕ) → k ≤ common_end old new
    → take (length new - k) new ++ drop (length old - k) old ≡ new
end_joined old new k rest = rw (end_alike old new k rest) (take-append-drop (length new - k) new)

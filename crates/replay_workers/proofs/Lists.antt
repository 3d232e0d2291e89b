-- Sums over lists of which one or two elements change, and lists that are longer by one at their end.
use Rattle.std.proofs.Common.{◌≡◌, ◌≢◌, ◌⊎◌, ℕ, zero, suc, ◌+◌, ◌<◌, ◌≤◌, ◌==◌, false, true≢false, cond, List, [], ◌∷◌, ◌++◌, map, set, inl, inr, ⊎_elim, refl, sym, ◌∙◌, ap, subst, arith}
use Rattle.std.specs.Prelude.{nat_le}
use Rattle.std.specs.List.{sum_by}
use mathlib.Core.Option.{some, some-injective, some-ne-none}
use lib.ListN.{get_elem?}
use Rattle.std.proofs.lemmas.Bool.{or_parts, le-leb, lt-ltb, le-ltb, eq-eqb, ne_eqb, cases_lt, cases_order}
use Rattle.std.proofs.lemmas.List.Folds.{list_any-append}
use Rattle.std.proofs.lemmas.List.Sums.{sum_by-cons}
use Rattle.atomic_table.proofs.Lists.{at_set}
use Rattle.replay_workers.specs.Draws.{has_end, EndsOnce, once_below}

-- ---- sums

module _ {A : Type 0} (f : A → ℕ) where
  pub sum_set : (xs : List A) (i : ℕ) (a b : A) → get_elem? xs i ≡ some a → sum_by f (set xs i b) + f a ≡ sum_by f xs + f b
  sum_set [] i a b at = absurd (some-ne-none a (sym at))
  sum_set (x ∷ xs) zero a b at = omega (arith, sum_by-cons f b xs, sum_by-cons f x xs, ap f (some-injective x a at))
  sum_set (x ∷ xs) (suc i) a b at =
      omega (arith, sum_by-cons f x (set xs i b), sum_by-cons f x xs, sum_set xs i a b at)

  pub at_most_sum : (xs : List A) (i : ℕ) (a : A) → get_elem? xs i ≡ some a → f a ≤ sum_by f xs
  at_most_sum [] i a at = absurd (some-ne-none a (sym at))
  at_most_sum (x ∷ xs) zero a at = omega (arith, sum_by-cons f x xs, ap f (some-injective x a at))
  at_most_sum (x ∷ xs) (suc i) a at = omega (arith, sum_by-cons f x xs, at_most_sum xs i a at)

  -- one takes over what the other has
  pub sum_joined : (xs : List A) (i j : ℕ) (a b both none : A)
      → get_elem? xs i ≡ some a → get_elem? (set xs i both) j ≡ some b → f both ≡ f a + f b → f none ≡ 0
      → sum_by f (set (set xs i both) j none) ≡ sum_by f xs
  sum_joined xs i j a b both none at at_j joined empty =
      omega (arith, sum_set xs i a both at, sum_set (set xs i both) j b none at_j, joined, empty)

  pub sum-map : {B : Type 0} (g : B → A) (ys : List B) → sum_by f (map g ys) ≡ sum_by (λ y. f (g y)) ys
  sum-map g [] = refl
  sum-map g (y ∷ ys) = omega (arith, sum_by-cons f (g y) (map g ys), sum_by-cons (λ z. f (g z)) y ys, sum-map g ys)

module _ {A : Type 0} (f g : A → ℕ) (empty : (a : A) → g a ≡ 0 → f a ≡ 0) where
  sum_of_none : (xs : List A) → sum_by g xs ≡ 0 → sum_by f xs ≡ 0
  sum_of_none [] none = refl
  sum_of_none (x ∷ xs) none =
      let all : sum_by g (x ∷ xs) ≡ g x + sum_by g xs = sum_by-cons g x xs in
      let here : f x ≡ 0 = empty x (omega (arith, none, all)) in
      let rest : sum_by f xs ≡ 0 = sum_of_none xs (omega (arith, none, all)) in
      omega (arith, sum_by-cons f x xs, here, rest)

  -- one has all that there is
  pub sum_of_one : (xs : List A) (i : ℕ) (a : A) → get_elem? xs i ≡ some a → sum_by g xs ≤ g a → sum_by f xs ≡ f a
  sum_of_one [] i a at few = absurd (some-ne-none a (sym at))
  sum_of_one (x ∷ xs) zero a at few =
      let all : sum_by g (x ∷ xs) ≡ g x + sum_by g xs = sum_by-cons g x xs in
      let same : g x ≡ g a = ap g (some-injective x a at) in
      let here : f x ≡ f a = ap f (some-injective x a at) in
      let rest : sum_by f xs ≡ 0 = sum_of_none xs (omega (arith, few, all, same)) in
      omega (arith, sum_by-cons f x xs, here, rest)
  sum_of_one (x ∷ xs) (suc i) a at few =
      let all : sum_by g (x ∷ xs) ≡ g x + sum_by g xs = sum_by-cons g x xs in
      let least : g a ≤ sum_by g xs = at_most_sum g xs i a at in
      let here : f x ≡ 0 = empty x (omega (arith, few, all, least)) in
      let rest : sum_by f xs ≡ f a = sum_of_one xs i a at (omega (arith, few, all)) in
      omega (arith, sum_by-cons f x xs, here, rest)

-- ---- passes: what is so of each, where one gets another view

pub each_set : {V : Type 0} (holds : ℕ → V → Type 0) (views : List V) (pass : ℕ) (w : V) → holds pass w
    → ((j : ℕ) (u : V) → j ≢ pass → get_elem? views j ≡ some u → holds j u)
    → (j : ℕ) (u : V) → get_elem? (set views pass w) j ≡ some u → holds j u
each_set {V = V} holds views pass w mine others j u at = ⊎_elim
    (λ (here : (j ≡ pass) × (w ≡ u)). subst (λ (p : ℕ × V). holds p.0 p.1) (λ i. (sym here.0 i, here.1 i)) mine)
    (λ (else : (j ≢ pass) × (get_elem? views j ≡ some u)). others j u else.0 else.1) (at_set views pass j w u at)

-- ---- what was drawn

module _ {A : Type 0} where
  -- cut at an element: that is an earlier one, or the last
  cut_at_end : (xs before after : List A) (x y : A) → xs ++ x ∷ [] ≡ before ++ y ∷ after
      → ((rest : List A) × (xs ≡ before ++ y ∷ rest)) ⊎ (after ≡ [])
  cut_at_end [] [] after x y is = inr (cc)
  cut_at_end [] (b ∷ []) after x y is = cc
  cut_at_end [] (b ∷ c ∷ before) after x y is = cc
  cut_at_end (a ∷ xs) [] after x y is = let same : a ≡ y = cc in inl (xs, cc)
  cut_at_end (a ∷ xs) (b ∷ before) after x y is =
      let rest : xs ++ x ∷ [] ≡ before ++ y ∷ after = cc in
      let same : a ≡ b = cc in
      elim (cut_at_end xs before after x y rest) [
        | inl earlier ↦ inl (earlier.0, let e = earlier.1 in cc)
        | inr last ↦ inr last
      ]

-- one number more, where none was at or past the count
pub one_drawn : (count : ℕ) (drawn : List ℕ) (x : ℕ) → has_end count drawn ≡ false → EndsOnce count (drawn ++ x ∷ [])
one_drawn count drawn x unspent before after y is past = elim (cut_at_end drawn before after x y is) [
  | inl e ↦
      let none = sym (list_any-append (nat_le count) before (y ∷ e.0)) ∙ ap (has_end count) (sym e.1) ∙ unspent in
      let rest = or_parts (has_end count before) (has_end count (y ∷ e.0)) none in
      absurd (true≢false (sym (le-leb count y past) ∙ (or_parts (nat_le count y) (has_end count e.0) rest.1).0))
  | inr last ↦ last
]

pub none_drawn : (count : ℕ) → EndsOnce count []
none_drawn count [] after y is past = cc
none_drawn count (b ∷ before) after y is past = cc

-- ---- numbers below an end

pub once_within : (end x : ℕ) → x < end → once_below end x ≡ 1
once_within end x less = ap (λ b. cond b 1 0) (lt-ltb x end less)

pub once_past : (end x : ℕ) → end ≤ x → once_below end x ≡ 0
once_past end x past = ap (λ b. cond b 1 0) (le-ltb x end past)

pub within_once : (end x : ℕ) → 1 ≤ once_below end x → x < end
within_once end x there = elim (cases_lt x end) [
  | inl less ↦ less
  | inr past ↦ absurd (omega (arith, there, once_past end x past))
]

pub once_at : (x y : ℕ) → x ≡ y → cond {A = ℕ} (x == y) 1 0 ≡ 1
once_at x y is = ap (λ b. cond b 1 0) (eq-eqb x y is)

pub once_else : (x y : ℕ) → x ≢ y → cond {A = ℕ} (x == y) 1 0 ≡ 0
once_else x y is = ap (λ b. cond b 1 0) (ne_eqb x y is)

-- one number more is below the end
pub one_more : (end x : ℕ) → once_below (end + 1) x ≡ once_below end x + cond {A = ℕ} (end == x) 1 0
one_more end x = elim (cases_order end x) [
  | inl same ↦ omega (arith, once_within (end + 1) x (omega (arith, same)), once_past end x (omega (arith, same)), once_at end x same)
  | inr (inl past) ↦ omega (
    arith,
    once_past (end + 1) x (omega (arith, past)),
    once_past end x (omega (arith, past)),
    once_else end x (λ e. omega (arith, e, past)),
  )
  | inr (inr less) ↦ omega (arith, once_within (end + 1) x (omega (arith, less)), once_within end x less, once_else end x (λ e. omega (arith, e, less)))
]

-- How many items were taken.
use Rattle.std.proofs.Common.{ℕ, ◌+◌, ◌≤◌, ◌<◌, ◌^◌, inl, inr, sym, subst, arith, Fits, w64}
use Rattle.std.proofs.lemmas.Bool.Decides.{eqb_tells}

-- the question was answered by false at one number more
pub one_lesser : (P : ℕ → Type 0) (m : ℕ) → ((n : ℕ) → n < m → P n) → P m → (n : ℕ) → n < m + 1 → P n
one_lesser P m lesser here n less = elim (eqb_tells n m) [
  | inl same ↦ subst P (sym same.1) here
  | inr other ↦ lesser n (omega (arith, less, other.1))
]

pub fits_more : (n : ℕ) → n ≤ 2 ^ 61 → Fits w64 (n + 1)
fits_more n few = omega (arith, few)

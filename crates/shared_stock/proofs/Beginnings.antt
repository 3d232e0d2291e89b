-- The items that are left beside the list that they begin.
use Rattle.std.proofs.Common.{◌≡◌, ℕ, List, [], ◌∷◌, ◌++◌, length, Some, slice_get, refl, sym, ap, subst, ◌∙◌, append_assoc}

-- the list begins with these
pub record Begin {A : Type 0} (all items : List A) : Type 0 where
  pub rest : List A
  pub whole : items ++ rest ≡ all

get_here : {A : Type 0} (front : List A) (x : A) (rest : List A) → slice_get (front ++ x ∷ rest) (length front) ≡ Some x
get_here [] x rest = refl
get_here (y ∷ front) x rest = get_here front x rest

module _ {A : Type 0} (all items less : List A) (x : A) (last : items ≡ less ++ x ∷ []) (begin : Begin all items) where
  whole : less ++ x ∷ begin.rest ≡ all
  whole = sym (append_assoc less (x ∷ []) begin.rest) ∙ ap (λ l. l ++ begin.rest) (sym last) ∙ begin.whole

  -- so they do without the last
  pub without_last : Begin all less
  without_last = record { rest = x ∷ begin.rest; whole = whole }

  -- which is the item behind them
  pub last_is : (number : ℕ) → number ≡ length less → slice_get all number ≡ Some x
  last_is number is = ap (slice_get all) is ∙ subst (λ l. slice_get l (length less) ≡ Some x) whole (get_here less x begin.rest)

-- Two ways to one place, of which one is a part of the other.
use Rattle.std.proofs.Common.{◌≡◌, ℕ, List, [], ◌∷◌, ◌++◌, Some, option_and_then, refl, sym, ◌∙◌, ap, arith, ◌⊎◌, inl, inr}
use Rattle.page_tree.specs.Tree.{Tree}
use Rattle.page_tree.specs.Look.{node_at}
use Rattle.page_tree.proofs.Below.{node_at-append}
use Rattle.page_tree.proofs.Numbers.{place_number, number_end}

-- the second goes further than the first, by that much
pub record GoesOn (at way next rest : List ℕ) : Type 0 where
  pub mid : List ℕ
  pub on : next ≡ at ++ mid
  pub left : way ≡ mid ++ rest

further : (i : ℕ) (at way next rest : List ℕ) → GoesOn at way next rest → GoesOn (i ∷ at) way (i ∷ next) rest
further i at way next rest g = record { mid = g.mid; on = ap (λ p. i ∷ p) g.on; left = g.left }

pub split : (at way next rest : List ℕ) → at ++ way ≡ next ++ rest → GoesOn at way next rest ⊎ GoesOn next rest at way
split [] way next rest same = inl (record { mid = next; on = refl; left = same })
split (i ∷ at) way [] rest same = inr (record { mid = i ∷ at; on = refl; left = sym same })
split (i ∷ at) way (j ∷ next) rest same =
    let first : i ≡ j = cc in
    let later : at ++ way ≡ next ++ rest = cc in
    elim (split at way next rest later) [
      | inl g ↦ inl (rw first (further j at way next rest g))
      | inr g ↦ inr (rw first (further j next rest at way g))
    ]

-- what stands there stands at the same way from each node on the way to it
pub on_the_way : (p q : List ℕ) (t m : Tree) → node_at p t ≡ Some m → node_at (p ++ q) t ≡ node_at q m
on_the_way p q t m is = node_at-append p q t ∙ ap (option_and_then (node_at q)) is

root_number : (p : List ℕ) (t : Tree) → place_number p t ≡ 0 → p ≡ []
root_number [] t is = refl
root_number (i ∷ rest) t is = absurd (omega (arith, is))

-- no node stands under itself
pub root_alone : (p : List ℕ) (t : Tree) → node_at p t ≡ Some t → p ≡ []
root_alone p t is = root_number p t (omega (arith, number_end p t t is))

-- A visit stands behind the one that opened it.
use Rattle.std.proofs.Common.{◌≡◌, ℕ, ◌<◌, ◌⊎◌, inl, inr, List, length, get_or, Option, None, Some, cond, nat_lt, refl, arith}
use Rattle.std.specs.Option.{option_and_then}
use Rattle.std.proofs.lemmas.Option.{none-some, cond_some}
use Rattle.std.proofs.lemmas.Bool.{ltb-true}
use Rattle.visit_tree.specs.Tree.{opener_at}
use Rattle.visit_tree.specs.inside.Siblings.{slot_at}

before : (place : ℕ) (given : Option ℕ) (p : ℕ)
    → option_and_then (λ parent. cond (nat_lt parent place) (Some parent) None) given ≡ Some p → p < place
before place None p is = absurd (none-some p is)
before place (Some q) p is =
    let parts = cond_some (nat_lt q place) q p is in omega (arith, ltb-true q place parts.0, parts.1)

pub opener_before : (parents : List (Option ℕ)) (place p : ℕ) → opener_at parents place ≡ Some p → p < place
opener_before parents place p is = before place (get_or parents place None) p is

-- none opened it, or one before it
pub record HasOpener (parents : List (Option ℕ)) (place p : ℕ) : Type 0 where
  pub is : opener_at parents place ≡ Some p
  pub slot : slot_at parents place ≡ p
  pub less : p < place

pub record HasNone (parents : List (Option ℕ)) (place : ℕ) : Type 0 where
  pub is : opener_at parents place ≡ None
  pub slot : slot_at parents place ≡ length parents

by_opener : (parents : List (Option ℕ)) (place : ℕ) (opener : Option ℕ) → opener_at parents place ≡ opener
    → HasNone parents place ⊎ ((p : ℕ) × HasOpener parents place p)
by_opener parents place None is = inl (record { is = is; slot = rw is refl })
by_opener parents place (Some p) is = inr (p, record { is = is; slot = rw is refl; less = opener_before parents place p is })

pub opener_cases : (parents : List (Option ℕ)) (place : ℕ) → HasNone parents place ⊎ ((p : ℕ) × HasOpener parents place p)
opener_cases parents place = by_opener parents place (opener_at parents place) refl

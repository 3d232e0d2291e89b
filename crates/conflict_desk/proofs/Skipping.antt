-- A book on which a conflict was passed over is refused by the law of how conflicts leave: its first conflict waits, and the second was decided.
use Rattle.std.proofs.Common.{◌≡◌, ℕ, ◌==◌, ◌<◌, [], ◌∷◌, Bool, true, false, ◌&&◌, ◌||◌, inl, inr, subst, arith}
use Rattle.std.proofs.lemmas.Bool.{false≢true}
use Rattle.conflict_desk.specs.Docket.{is_conflict}
use Rattle.conflict_desk.specs.Book.{Book}
use Rattle.conflict_desk.specs.Laws.{LeaveInOrder}
use Rattle.conflict_desk.specs.declared.docket.Case.{Case}
use Rattle.conflict_desk.specs.declared.decided.Choice.TheVariants.{Keep}

keeps_none : (b : Bool) → ((b && false) || false) ≡ true → ⊥
keeps_none true is = false≢true is
keeps_none false is = false≢true is

module _ (first second : Case) (one : first.visit ≡ 1) (conflict : is_conflict first.outcome ≡ true) where
  abbrev pub skipping : Book
  skipping = record { cases = first ∷ second ∷ []; decisions = record { visit = 2; choice = Keep } ∷ [] }

  pub not_skipped : LeaveInOrder skipping → ⊥
  not_skipped law = elim (law.before.0.0 (omega (arith, one)) conflict) [
    | inl decided ↦ false≢true (subst (λ visit. ((2 == visit) || false) ≡ true) one decided)
    | inr (visit, on, was) ↦ keeps_none (2 == visit) was
  ]

-- From one front to the next.
use Rattle.std.proofs.Common.{◌≡◌, ℕ, ◌+◌, ◌<◌, ◌≤◌, List, ◌++◌, length, get_or, take, drop, Bool, true, false, Some, slice_get, sym, ◌∙◌, append-nil, arith}
use Rattle.std.proofs.Math.ListN.{set}
use Rattle.std.proofs.lemmas.Bool.{cases_lt}
use Rattle.std.proofs.lemmas.Option.{get_or_from_slice_get}
use Rattle.std.proofs.lemmas.List.{take_all, drop_all, get_or-set_same, get_or-set_other}
use Rattle.conflict_desk.specs.Docket.{is_conflict}
use Rattle.conflict_desk.specs.inside.Settling.{Tell}
use Rattle.conflict_desk.specs.declared.docket.Case.{Case}

-- ---- one case more

pub tell_more : (said : ℕ → Bool) (gone : List Bool) (place : ℕ) (b : Bool) → Tell said place gone → place < length gone → b ≡ said place → Tell said (place + 1) (set gone place b)
tell_more said gone place b tell within is k less =
    grind (arith, cases_lt k place, tell k, get_or-set_other gone place k b false, get_or-set_same gone place b false within)

pub passed_more : (said : ℕ → Bool) (cases : List Case) (from place : ℕ)
    → ((k : ℕ) (case : Case) → from ≤ k → k < place → slice_get cases k ≡ Some case → is_conflict case.outcome ≡ true → said k ≡ true)
    → ((case : Case) → slice_get cases place ≡ Some case → is_conflict case.outcome ≡ true → said place ≡ true) → (k : ℕ) (case : Case) → from ≤ k
    → k < place + 1 → slice_get cases k ≡ Some case → is_conflict case.outcome ≡ true → said k ≡ true
passed_more said cases from place passed here k case le less at conflict = grind (arith, cases_lt k place, passed k case, here case)

-- the flags up to a place say the same where one is written there
pub tell_at : (said : ℕ → Bool) (gone : List Bool) (place : ℕ) (b : Bool) → Tell said place gone → Tell said place (set gone place b)
tell_at said gone place b tell k less = get_or-set_other gone place k b false (λ same. omega (arith, same, less)) ∙ tell k less

pub item_is : (cases : List Case) (place : ℕ) (item case : Case) → item ≡ get_or cases place item → slice_get cases place ≡ Some case → item ≡ case
item_is cases place item case is at = is ∙ get_or_from_slice_get cases place case item at

-- the flag that was written
pub written : (said : ℕ → Bool) (gone : List Bool) (place : ℕ) (b flag : Bool) → place < length gone → b ≡ said place → get_or (set gone place b) place false ≡ flag → said place ≡ flag
written said gone place b flag within is flagged = sym is ∙ sym (get_or-set_same gone place b false within) ∙ flagged

-- a slice that was written is all of its vector
pub written_back : (n : ℕ) (new old : List Bool) → n ≡ length new → length old ≡ length new → take n (new ++ drop (length new) old) ≡ new
written_back n new old is same = rw (drop_all (length new) old (omega (arith, same)), append-nil) (take_all n new (omega (arith, is)))

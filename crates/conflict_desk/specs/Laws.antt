-- What holds of every book on a desk, whatever calls were made.
use Rattle.std.specs.Prelude.{◌≡◌, ◌↔◌, ℕ, ◌<◌, List, map, filter, bytes_eq, true, Option, None, Some, ◌⊎◌}
use Rattle.std.specs.List.{AllByRecursion}
use Rattle.std.specs.Option.{IsSomeAnd}
use Rattle.std.specs.List.Sorted.{IsStrictlyIncreasing}
use Rattle.conflict_desk.specs.Docket.{case_of_visit, parent_of, is_conflict}
use Rattle.conflict_desk.specs.Book.{Book, is_decided, was_cancelled, front_visit, standing_in}
use Rattle.conflict_desk.specs.Desk.{Books, book_of, by_case, after_calls}
use Rattle.conflict_desk.specs.declared.decision.Decision.{Decision}
use Rattle.conflict_desk.specs.declared.docket.Case.{Case}
use Rattle.conflict_desk.specs.declared.decided.Decided.{Decided}
use Rattle.conflict_desk.specs.declared.decided.Standing.{Standing}
use Rattle.conflict_desk.specs.declared.decided.Standing.TheVariants.{Kept, Cancelled}

-- ---- the chain of parents

-- that visit is this case's own, or its parent's, or the parent's of that, and so on
pub data IsOnChain (cases : List Case) (visit : ℕ) : Case → Type 0 where
  itself : (case : Case) → case.visit ≡ visit → IsOnChain cases visit case
  above : (case parent : Case) → parent_of cases case ≡ Some parent
      → IsOnChain cases visit parent → IsOnChain cases visit case

-- it, or a visit on its chain of parents, was cancelled by a decision
abbrev pub IsBelowCancelled : Book → Case → Type 0
IsBelowCancelled book case = (visit : ℕ) × IsOnChain book.cases visit case × (was_cancelled book.decisions visit ≡ true)

-- ---- how conflicts leave

-- the visit that was decided is a conflict
abbrev pub IsConflictOf : List Case → Decided → Type 0
IsConflictOf cases decided = IsSomeAnd (case_of_visit cases decided.visit) (λ case. is_conflict case.outcome ≡ true)

-- no visit above the decided one on its chain of parents was cancelled by a decision, be it an earlier or a later one
abbrev pub IsSpared : Book → Decided → Type 0
IsSpared book decided = (case parent : Case) → case_of_visit book.cases decided.visit ≡ Some case
    → parent_of book.cases case ≡ Some parent → ¬ IsBelowCancelled book parent

-- a conflict that left: it was decided, or a visit above it was cancelled
abbrev pub HasLeft : Book → Case → Type 0
HasLeft book case =
    is_conflict case.outcome ≡ true → (is_decided book.decisions case.visit ≡ true) ⊎ IsBelowCancelled book case

-- every conflict before the decided one has left, so none was passed over
abbrev pub IsBehindNone : Book → Decided → Type 0
IsBehindNone book decided = AllByRecursion (λ case. case.visit < decided.visit → HasLeft book case) book.cases

-- The visits that were decided ascend, so none was decided twice; each is a conflict, before which no other waits, and
-- none is below a cancelled visit; and where no front is left, every conflict has left.
pub record LeaveInOrder (book : Book) : Type 0 where
  pub ascend : IsStrictlyIncreasing (map (λ decided. decided.visit) book.decisions)
  pub conflicts : AllByRecursion (IsConflictOf book.cases) book.decisions
  pub spared : AllByRecursion (IsSpared book) book.decisions
  pub before : AllByRecursion (IsBehindNone book) book.decisions
  pub all : front_visit book ≡ None → AllByRecursion (HasLeft book) book.cases

abbrev pub AllLeaveInOrder : Books → Type 0
AllLeaveInOrder books = AllByRecursion (λ entry. LeaveInOrder entry.1) books

-- ---- of every desk

-- whatever calls follow, each client's conflicts are decided in order, none twice, and none below a cancelled visit
abbrev pub IsInOrder : Books → Type 0
IsInOrder books = (calls : List Decision) → AllLeaveInOrder (after_calls books calls)

-- And a conflict that left, which stands kept or cancelled after some calls, stands so after any more.
abbrev pub IsSteady : Books → Type 0
IsSteady books =
    (calls more : List Decision) (client : List ℕ) (visit : ℕ) (left : Standing) → (left ≡ Kept) ⊎ (left ≡ Cancelled)
    → by_case standing_in client visit (after_calls books calls) ≡ Some left
    → by_case standing_in client visit (after_calls (after_calls books calls) more) ≡ Some left

-- Each client's decisions are made by themselves: behind any calls its book is the one behind its own calls alone.
abbrev pub IsIsolated : Books → Type 0
IsIsolated books = (calls : List Decision) (client : List ℕ) → book_of client (after_calls books calls)
    ≡ book_of client (after_calls books (filter (λ call. bytes_eq client call.client) calls))

-- a visit stands cancelled exactly where it, or a visit on its chain of parents, was cancelled by a decision
abbrev pub TellsCancelled : List ℕ → ℕ → Books → Option Standing → Type 0
TellsCancelled client visit books standing =
    (book : Book) (case : Case) → book_of client books ≡ Some book → case_of_visit book.cases visit ≡ Some case
    → (standing ≡ Some Cancelled) ↔ IsBelowCancelled book case

-- What left stays as it left.
use Rattle.std.proofs.Common.{◌≡◌, ℕ, ◌<◌, List, [], ◌∷◌, Bool, true, false, cond, bytes_eq, nat_eq, Option, Some, None, option_map, option_and_then, inl, inr, ◌⊎◌, arith, ap, sym, refl, subst, ◌∙◌}
use Rattle.std.proofs.lemmas.Option.{same_Some}
use Rattle.std.specs.Map.{lookup}
use Rattle.std.specs.List.{find, AllByRecursion}
use Rattle.std.specs.Option.{option_eq, option_map_or}
use Rattle.std.proofs.lemmas.Bool.{cases_Bool}
use Rattle.indexmap.specs.IndexMap.{insert_entry}
use Rattle.visit_replay.specs.declared.outcome.Outcome.{Outcome}
use Rattle.visit_replay.specs.declared.outcome.Outcome.TheVariants as outcome
use Rattle.conflict_desk.specs.Docket.{AreAscending, case_of_visit}
use Rattle.conflict_desk.specs.Book.{Book, is_decided, is_cancelled, waits, front_visit, with_decision, standing_by, standing_in}
use Rattle.conflict_desk.specs.Desk.{book_of, refusal_of, new_books, after_call, after_calls}
use Rattle.conflict_desk.specs.declared.decision.Decision.{Decision}
use Rattle.conflict_desk.specs.Laws.{IsSteady}
use Rattle.conflict_desk.specs.declared.docket.Case.{Case}
use Rattle.conflict_desk.specs.declared.docket.Docket.{Docket}
use Rattle.conflict_desk.specs.declared.decided.Choice.{Choice}
use Rattle.conflict_desk.specs.declared.decided.Standing.{Standing}
use Rattle.conflict_desk.specs.declared.decided.Standing.TheVariants as standing
use Rattle.conflict_desk.specs.declared.fault.DeskFault.TheVariants.{NoClient, NotFront}
use Rattle.conflict_desk.proofs.Gets.{not_none, IsFirst, find_passes, find_where}
use Rattle.conflict_desk.proofs.Chains.{below_cancelled, cancelled_below, decided_still, cancelled_before, cancelled_still}
use Rattle.conflict_desk.proofs.Books.{stands_below, below_stands}
use Rattle.conflict_desk.proofs.Leaving.{Goes, of_client, is_the_front, all_call, all_calls, all_opened}
use Rattle.conflict_desk.proofs.Decisions.{decided_in, unless_refused}

-- ---- one case, over a decision on the front

-- what was decided is before the front
decided_before : (book : Book) → Goes book → (front : ℕ) (o : Option Case) → find (waits book) book.cases ≡ o → option_map (λ case. case.visit) o ≡ Some front → (visit : ℕ) → is_decided book.decisions visit ≡ true → visit < front
decided_before book goes front None found is visit done = absurd (not_none front (sym is))
decided_before book goes front (Some c) found is visit done =
    let first : IsFirst (waits book) book.cases c = find_where (waits book) book.cases c found in
    subst (λ v. visit < v) (same_Some c.visit front is) (goes.ahead first.place c first.at (find_passes (waits book) book.cases c found) visit done)

kept_by : (o : Outcome) (decided : Bool) → standing_by o decided ≡ standing.Kept → decided ≡ true
kept_by o decided is = grind arith

module _ (book : Book) (goes : Goes book) (front : ℕ) (choice : Choice) (is_front_of : front_visit book ≡ Some front) (c : Case) where
  kept_stays : standing_in book c ≡ standing.Kept → standing_in (with_decision front choice book) c ≡ standing.Kept
  kept_stays stands =
      let before = decided_before book goes front (find (waits book) book.cases) refl is_front_of c.visit in
      grind (arith, cases_Bool (is_cancelled book c), kept_by c.outcome (is_decided book.decisions c.visit), before, cancelled_before book front choice c, decided_still book.decisions front choice c.visit)

  cancelled_stays : standing_in book c ≡ standing.Cancelled → standing_in (with_decision front choice book) c ≡ standing.Cancelled
  cancelled_stays stands =
      below_stands (with_decision front choice book) c (below_cancelled (with_decision front choice book) c (cancelled_still book front choice c (cancelled_below book c (stands_below book c stands))))

-- ---- one visit of any client, over any calls

-- how a visit stands in a book, if there is one
abbrev pub standing_of : ℕ → Option Book → Option Standing
standing_of visit o = option_and_then (λ book. option_map (standing_in book) (case_of_visit book.cases visit)) o

-- where it stands so in the one book, it does in the other
abbrev pub Stays : Standing → ℕ → Option Book → Option Book → Type 0
Stays s visit before after = standing_of visit before ≡ Some s → standing_of visit after ≡ Some s

-- any decision on a front leaves a case as it stands
abbrev pub StaysOver : Standing → Type 0
StaysOver s = (book : Book) → Goes book → (front : ℕ) (choice : Choice) → front_visit book ≡ Some front → (c : Case) → standing_in book c ≡ s → standing_in (with_decision front choice book) c ≡ s

case_stays : (s : Standing) (book new : Book) (o : Option Case) → ((c : Case) → standing_in book c ≡ s → standing_in new c ≡ s) → option_map (standing_in book) o ≡ Some s → option_map (standing_in new) o ≡ Some s
case_stays s book new None stays is = absurd (not_none s (sym is))
case_stays s book new (Some c) stays is = ap (λ t. Some t) (stays c (same_Some (standing_in book c) s is))

module _ (s : Standing) (visit : ℕ) where
  module _ (client key : List ℕ) (book new : Book) where
    inserted_cases : (books : List (List ℕ × Book)) → lookup (bytes_eq key) books ≡ Some book
        → (lookup (bytes_eq client) (insert_entry bytes_eq books key new) ≡ lookup (bytes_eq client) books) ⊎ ((lookup (bytes_eq client) (insert_entry bytes_eq books key new) ≡ Some new) × (lookup (bytes_eq client) books ≡ Some book))
    inserted_cases [] found = absurd (not_none book (sym found))
    inserted_cases (e ∷ books) found = grind (arith, inserted_cases books)

    inserted : Stays s visit (Some book) (Some new) → (books : List (List ℕ × Book)) → lookup (bytes_eq key) books ≡ Some book
        → Stays s visit (lookup (bytes_eq client) books) (lookup (bytes_eq client) (insert_entry bytes_eq books key new))
    inserted stays books found was = elim (inserted_cases books found) [
      | inl same ↦ ap (standing_of visit) same ∙ was
      | inr both ↦ ap (standing_of visit) both.0 ∙ stays (sym (ap (standing_of visit) both.1) ∙ was)
    ]

  module _ (over : StaysOver s) (client : List ℕ) where
    module _ (books : List (List ℕ × Book)) (all : AllByRecursion (λ entry. Goes entry.1) books) (call : Decision) where
      by_test : (book : Book) → book_of call.client books ≡ Some book → (b : Bool) → option_eq nat_eq (front_visit book) (Some call.visit) ≡ b
          → Stays s visit (book_of client books) (book_of client (unless_refused (cond b None (Some (NotFront (front_visit book)))) (insert_entry bytes_eq books call.client (with_decision call.visit call.choice book)) books))
      by_test book is true front =
          let new = with_decision call.visit call.choice book in
          inserted client call.client book new
          (case_stays s book new (case_of_visit book.cases visit) (over book (of_client call.client book books all is) call.visit call.choice (is_the_front call.visit (front_visit book) front)))
          books is
      by_test book is false front = λ same. same

      by_book : (o : Option Book) → book_of call.client books ≡ o
          → Stays s visit (book_of client books) (book_of client (unless_refused (option_map_or (refusal_of call.visit) o (Some NoClient)) (decided_in call.client call.visit call.choice books o) books))
      by_book None is = λ same. same
      by_book (Some book) is = by_test book is (option_eq nat_eq (front_visit book) (Some call.visit)) refl

    calls_stay : (calls : List Decision) (books : List (List ℕ × Book)) → AllByRecursion (λ entry. Goes entry.1) books → Stays s visit (book_of client books) (book_of client (after_calls books calls))
    calls_stay [] books all stands = stands
    calls_stay (call ∷ calls) books all stands =
        calls_stay calls (after_call books call) (all_call books all call) (by_book books all call (book_of call.client books) refl stands)

-- whatever calls are made on new dockets, and whatever further ones
pub all_stay : (dockets : List Docket) → AllByRecursion (λ docket. AreAscending docket.cases) dockets → IsSteady (new_books dockets)
all_stay dockets up calls more client visit left which =
    let books = after_calls (new_books dockets) calls in
    let all = all_calls calls (new_books dockets) (all_opened dockets up) in
    elim which [
      | inl is ↦ rw is (calls_stay standing.Kept visit kept_stays client more books all)
      | inr is ↦ rw is (calls_stay standing.Cancelled visit cancelled_stays client more books all)
    ]

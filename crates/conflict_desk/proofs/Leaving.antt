-- Conflicts leave in order, each once.
use Rattle.std.proofs.Common.{◌≡◌, ℕ, zero, suc, ◌+◌, ◌<◌, List, [], ◌∷◌, ◌++◌, length, map, get_or, Bool, true, false, cond, bytes_eq, nat_eq, Option, Some, None, slice_get, option_map, inl, inr, ap, sym, refl, subst, ◌∙◌, arith}
use Rattle.std.proofs.lemmas.List.Elements.{All-from_recursion, All-push, recursion_from_All}
use Rattle.std.proofs.lemmas.Option.{same_Some, slice_get-get_or}
use Rattle.std.specs.Map.{lookup}
use Rattle.std.specs.List.{find, AllByRecursion}
use Rattle.std.specs.Option.{IsSomeAnd, option_eq, option_map_or}
use Rattle.std.specs.List.Sorted.{IsStrictlyIncreasing}
use Rattle.std.proofs.lemmas.Bool.{cases_Bool, cases_order, cond_both, cond-true, cond-false, true≢false, false≢true, eq-eqb, eqb-true, or_left, or_right, or_parts, or_cases}
use Rattle.std.proofs.lemmas.List.{map-append, get_or_append_left, get_or_push, length_push}
use Rattle.indexmap.specs.IndexMap.{insert_entry}
use Rattle.conflict_desk.specs.Docket.{AreAscending, case_of_visit, parent_of, is_conflict}
use Rattle.conflict_desk.specs.Book.{Book, new_book, is_decided, is_cancelled, waits, front_visit, with_decision}
use Rattle.conflict_desk.specs.Desk.{new_books, book_of, refusal_of, after_call, after_calls}
use Rattle.conflict_desk.specs.declared.decision.Decision.{Decision}
use Rattle.conflict_desk.specs.Laws.{IsConflictOf, IsSpared, HasLeft, IsBehindNone, LeaveInOrder, AllLeaveInOrder}
use Rattle.conflict_desk.specs.declared.docket.Case.{Case}
use Rattle.conflict_desk.specs.declared.docket.Docket.{Docket}
use Rattle.conflict_desk.specs.declared.decided.Choice.{Choice}
use Rattle.conflict_desk.specs.declared.decided.Decided.{Decided}
use Rattle.conflict_desk.specs.declared.fault.DeskFault.TheVariants.{NoClient, NotFront}
use Rattle.conflict_desk.proofs.Gets.{not_none, IsFirst, find_passes, find_where, none_passes}
use Rattle.conflict_desk.proofs.Places.{in_order, case_at, is_of, parent_is}
use Rattle.conflict_desk.proofs.Chains.{decided_more, decided_now, cancelled_is, cancelled_before, below_cancelled, cancelled_below}
use Rattle.conflict_desk.proofs.Keeping.{why, no_wait, no_wait_still, waiting_parts}
use Rattle.conflict_desk.proofs.Decisions.{decided_in, unless_refused}

-- ---- lists

below_at : (xs : List ℕ) (v k : ℕ) → AllByRecursion (λ x. x < v) xs → k < length xs → get_or xs k 0 < v
below_at [] v k below within = absurd (omega (arith, within))
below_at (x ∷ xs) v zero below within = below.0
below_at (x ∷ xs) v (suc k) below within = below_at xs v k below.1 (omega (arith, within))

increasing_push : (xs : List ℕ) (v : ℕ) → IsStrictlyIncreasing xs → AllByRecursion (λ x. x < v) xs → IsStrictlyIncreasing (xs ++ v ∷ [])
increasing_push xs v up below k within =
    grind (arith, up k, get_or_append_left xs (v ∷ []) 0 k, get_or_append_left xs (v ∷ []) 0 (k + 1), get_or_push xs v 0 (k + 1), below_at xs v k below, length_push xs v)

all_push : {X : Type 0} (P : X → Type 0) (xs : List X) (x : X) → AllByRecursion P xs → P x → AllByRecursion P (xs ++ x ∷ [])
all_push P xs x all is = recursion_from_All P (xs ++ x ∷ []) (All-push P xs x (All-from_recursion P xs all) is)

all_more : {X : Type 0} (P Q : X → Type 0) → ((x : X) → P x → Q x) → (xs : List X) → AllByRecursion P xs → AllByRecursion Q xs
all_more P Q more xs all = recursion_from_All Q xs (λ k d within. more _ (All-from_recursion P xs all k d within))

-- ---- no visit above a decided one was cancelled

-- what `IsSpared` says, by the test of the definition
abbrev pub HasNoneAbove : Book → Decided → Type 0
HasNoneAbove book decided = (c p : Case) → case_of_visit book.cases decided.visit ≡ Some c → parent_of book.cases c ≡ Some p → is_cancelled book p ≡ false

-- a decision on a later visit changes nothing of it
none_still : (book : Book) (visit : ℕ) (choice : Choice) (d : Decided) → d.visit < visit → HasNoneAbove book d → HasNoneAbove (with_decision visit choice book) d
none_still book visit choice d less none c p is up =
    cancelled_before book visit choice p (omega (arith, (parent_is book.cases c p up).1, is_of book.cases d.visit c is, less)) ∙ none c p is up

none_still_all : (book : Book) (visit : ℕ) (choice : Choice) (ds : List Decided) → AllByRecursion (λ x. x < visit) (map (λ decided. decided.visit) ds) → AllByRecursion (HasNoneAbove book) ds → AllByRecursion (HasNoneAbove (with_decision visit choice book)) ds
none_still_all book visit choice [] below none = tt
none_still_all book visit choice (d ∷ ds) below none = (none_still book visit choice d below.0 none.0, none_still_all book visit choice ds below.1 none.1)

none_now : (book : Book) (choice : Choice) (c : Case) → case_of_visit book.cases c.visit ≡ Some c → is_cancelled book c ≡ false → HasNoneAbove (with_decision c.visit choice book) record { visit = c.visit; choice = choice }
none_now book choice c at stays d p is up =
    let own : c ≡ d = same_Some c d (sym at ∙ is) in
    let parent : parent_of book.cases c ≡ Some p = ap (parent_of book.cases) own ∙ up in
    let above : option_map_or (is_cancelled book) (parent_of book.cases c) false ≡ false = (or_parts _ _ (sym (cancelled_is book c) ∙ stays)).1 in
    cancelled_before book c.visit choice p (parent_is book.cases c p parent).1 ∙ ap (λ o. option_map_or (is_cancelled book) o false) (sym parent) ∙ above

is_spared : (book : Book) (d : Decided) → HasNoneAbove book d → IsSpared book d
is_spared book d none c p is up below = true≢false (sym (cancelled_below book p below) ∙ none c p is up)

-- ---- one book

-- what each book keeps
pub record Goes (book : Book) : Type 0 where
  pub ascending : AreAscending book.cases
  pub ascend : IsStrictlyIncreasing (map (λ decided. decided.visit) book.decisions)
  pub conflicts : AllByRecursion (IsConflictOf book.cases) book.decisions
  pub none_above : AllByRecursion (HasNoneAbove book) book.decisions
  pub ahead : (k : ℕ) (c : Case) → slice_get book.cases k ≡ Some c → waits book c ≡ true → (visit : ℕ) → is_decided book.decisions visit ≡ true → visit < c.visit

pub goes_opened : (cases : List Case) → AreAscending cases → Goes (new_book cases)
goes_opened cases up = record { ascending = up; ascend = λ k within. absurd (omega (arith, within)); conflicts = tt; none_above = tt; ahead = λ k c at waiting visit done. absurd (false≢true done) }

decided_each : (decisions : List Decided) (v : ℕ) → ((visit : ℕ) → is_decided decisions visit ≡ true → visit < v) → AllByRecursion (λ x. x < v) (map (λ decided. decided.visit) decisions)
decided_each [] v below = tt
decided_each (d ∷ decisions) v below = (below d.visit (or_left _ _ (eq-eqb d.visit d.visit refl)), decided_each decisions v (λ visit done. below visit (or_right _ _ done)))

waits_before : (book : Book) (visit : ℕ) (choice : Choice) (c : Case) → waits (with_decision visit choice book) c ≡ true → waits book c ≡ true
waits_before book visit choice c waiting = grind (arith, cases_Bool (waits book c), no_wait_still book visit choice c)

module _ (book : Book) (goes : Goes book) (choice : Choice) (c : Case) (found : find (waits book) book.cases ≡ Some c) where
  not_before : (k : ℕ) (d : Case) → slice_get book.cases k ≡ Some d → waits (with_decision c.visit choice book) d ≡ true → c.visit < d.visit
  not_before k d at waiting =
      let first : IsFirst (waits book) book.cases c = find_where (waits book) book.cases c found in
      let was = waits_before book c.visit choice d waiting in
      let now = no_wait (with_decision c.visit choice book) c (inr (inl (decided_now book.decisions c.visit choice))) in
      grind (arith, cases_order k first.place, first.at, first.before k d, was, now, in_order book.cases goes.ascending first.place k c d first.at at)

  goes_on : Goes (with_decision c.visit choice book)
  goes_on =
      let first : IsFirst (waits book) book.cases c = find_where (waits book) book.cases c found in
      let waiting = find_passes (waits book) book.cases c found in
      let parts = waiting_parts book c waiting in
      let here : case_of_visit book.cases c.visit ≡ Some c = case_at book.cases goes.ascending c.visit first.place c first.at refl in
      let below = decided_each book.decisions c.visit (goes.ahead first.place c first.at waiting) in
      record {
        ascending = goes.ascending;
        ascend = subst IsStrictlyIncreasing (sym (map-append (λ (decided : Decided). decided.visit) book.decisions (record { visit = c.visit; choice = choice } ∷ [])))
            (increasing_push (map (λ (decided : Decided). decided.visit) book.decisions) c.visit goes.ascend below);
        conflicts = all_push (IsConflictOf book.cases) book.decisions (record { visit = c.visit; choice = choice }) goes.conflicts (subst (λ o. IsSomeAnd o (λ case. is_conflict case.outcome ≡ true)) (sym here) parts.0);
        none_above = all_push (HasNoneAbove (with_decision c.visit choice book)) book.decisions (record { visit = c.visit; choice = choice })
            (none_still_all book c.visit choice book.decisions below goes.none_above) (none_now book choice c here parts.2);
        ahead = λ k d at still visit done. elim (or_cases _ _ (sym (decided_more book.decisions c.visit choice visit) ∙ done)) [
          | inl before ↦ goes.ahead k d at (waits_before book c.visit choice d still) visit before
          | inr now ↦ let same : c.visit ≡ visit = eqb-true _ _ now in subst (λ v. v < d.visit) same (not_before k d at still)
        ];
      }

by_front : (book : Book) → Goes book → (choice : Choice) (visit : ℕ) (o : Option Case) → find (waits book) book.cases ≡ o → option_map (λ case. case.visit) o ≡ Some visit → Goes (with_decision visit choice book)
by_front book goes choice visit None found is = absurd (not_none visit (sym is))
by_front book goes choice visit (Some c) found is =
    subst (λ v. Goes (with_decision v choice book)) (same_Some c.visit visit is) (goes_on book goes choice c found)

pub goes_decided : (book : Book) → Goes book → (choice : Choice) (visit : ℕ) → front_visit book ≡ Some visit → Goes (with_decision visit choice book)
goes_decided book goes choice visit front = by_front book goes choice visit (find (waits book) book.cases) refl front

no_front : (book : Book) → front_visit book ≡ None → find (waits book) book.cases ≡ None
no_front book front = grind arith

has_left : (book : Book) (c : Case) → waits book c ≡ false → HasLeft book c
has_left book c none conflict = grind (arith, why book c none, below_cancelled book c)

passed_by : (book : Book) → Goes book → (k : ℕ) (c : Case) → slice_get book.cases k ≡ Some c → (visit : ℕ) → is_decided book.decisions visit ≡ true → c.visit < visit → (b : Bool) → waits book c ≡ b → waits book c ≡ false
passed_by book goes k c at visit done below true waiting = absurd (omega (arith, goes.ahead k c at waiting visit done, below))
passed_by book goes k c at visit done below false waits = waits

behind_none : (book : Book) → Goes book → (decisions : List Decided) → ((visit : ℕ) → is_decided decisions visit ≡ true → is_decided book.decisions visit ≡ true) → AllByRecursion (IsBehindNone book) decisions
behind_none book goes [] of = tt
behind_none book goes (d ∷ decisions) of = (
  recursion_from_All (λ case. case.visit < d.visit → HasLeft book case) book.cases (λ k c within below.
      has_left book _ (passed_by book goes k _ (slice_get-get_or book.cases k c within) d.visit (of d.visit (or_left _ _ (eq-eqb d.visit d.visit refl))) below _ refl)),
  behind_none book goes decisions (λ visit done. of visit (or_right _ _ done)),
)

pub leave_in_order : (book : Book) → Goes book → LeaveInOrder book
leave_in_order book goes = record {
  ascend = goes.ascend;
  conflicts = goes.conflicts;
  spared = all_more (HasNoneAbove book) (IsSpared book) (is_spared book) book.decisions goes.none_above;
  before = behind_none book goes book.decisions (λ visit done. done);
  all = λ front. recursion_from_All (HasLeft book) book.cases (λ k d within. has_left book _ (none_passes (waits book) book.cases k _ (no_front book front) (slice_get-get_or book.cases k d within)));
}

-- ---- all books

all_insert : (client : List ℕ) (new : Book) (books : List (List ℕ × Book)) → AllByRecursion (λ entry. Goes entry.1) books → Goes new → AllByRecursion (λ entry. Goes entry.1) (insert_entry bytes_eq books client new)
all_insert client new [] all goes = (goes, tt)
all_insert client new (e ∷ books) all goes =
    cond_both (bytes_eq client e.0) _ _ (AllByRecursion (λ entry. Goes entry.1)) (λ _. (goes, all.1))
    (λ _. (all.0, all_insert client new books all.1 goes))

pub of_client : (client : List ℕ) (book : Book) (books : List (List ℕ × Book)) → AllByRecursion (λ entry. Goes entry.1) books → lookup (bytes_eq client) books ≡ Some book → Goes book
of_client client book [] all found = absurd (not_none book (sym found))
of_client client book (e ∷ books) all found = elim (cases_Bool (bytes_eq client e.0)) [
  | inl is ↦ subst Goes (same_Some e.1 book (sym (cond-true (bytes_eq client e.0) (Some e.1) (lookup (bytes_eq client) books) is) ∙ found)) all.0
  | inr is ↦ of_client client book books all.1 (sym (cond-false (bytes_eq client e.0) (Some e.1) (lookup (bytes_eq client) books) is) ∙ found)
]

pub is_the_front : (visit : ℕ) (o : Option ℕ) → option_eq nat_eq o (Some visit) ≡ true → o ≡ Some visit
is_the_front visit None is = absurd (false≢true is)
is_the_front visit (Some front) is = ap (λ v. Some v) (eqb-true _ _ is)

module _ (books : List (List ℕ × Book)) (all : AllByRecursion (λ entry. Goes entry.1) books) (call : Decision) where
  by_test : (book : Book) → book_of call.client books ≡ Some book → (b : Bool) → option_eq nat_eq (front_visit book) (Some call.visit) ≡ b
      → AllByRecursion (λ entry. Goes entry.1) (unless_refused (cond b None (Some (NotFront (front_visit book)))) (insert_entry bytes_eq books call.client (with_decision call.visit call.choice book)) books)
  by_test book is true front = all_insert call.client (with_decision call.visit call.choice book) books all (goes_decided book (of_client call.client book books all is) call.choice call.visit (is_the_front call.visit (front_visit book) front))
  by_test book is false front = all

  by_book : (o : Option Book) → book_of call.client books ≡ o
      → AllByRecursion (λ entry. Goes entry.1) (unless_refused (option_map_or (refusal_of call.visit) o (Some NoClient)) (decided_in call.client call.visit call.choice books o) books)
  by_book None is = all
  by_book (Some book) is = by_test book is (option_eq nat_eq (front_visit book) (Some call.visit)) refl

  pub all_call : AllByRecursion (λ entry. Goes entry.1) (after_call books call)
  all_call = by_book (book_of call.client books) refl

pub all_calls : (calls : List Decision) (books : List (List ℕ × Book)) → AllByRecursion (λ entry. Goes entry.1) books → AllByRecursion (λ entry. Goes entry.1) (after_calls books calls)
all_calls [] books all = all
all_calls (call ∷ calls) books all = all_calls calls (after_call books call) (all_call books all call)

pub all_opened : (dockets : List Docket) → AllByRecursion (λ docket. AreAscending docket.cases) dockets → AllByRecursion (λ entry. Goes entry.1) (new_books dockets)
all_opened [] up = tt
all_opened (docket ∷ dockets) up = (goes_opened docket.cases up.0, all_opened dockets up.1)

-- whatever calls are made on new_book dockets
pub all_leave : (dockets : List Docket) → AllByRecursion (λ docket. AreAscending docket.cases) dockets → (calls : List Decision) → AllLeaveInOrder (after_calls (new_books dockets) calls)
all_leave dockets up calls = all_more (λ entry. Goes entry.1) (λ entry. LeaveInOrder entry.1) (λ entry goes. leave_in_order entry.1 goes) _ (all_calls calls (new_books dockets) (all_opened dockets up))

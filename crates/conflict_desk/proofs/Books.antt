-- The books on a desk.
use Rattle.std.proofs.Common.{◌≡◌, ℕ, zero, suc, List, [], ◌∷◌, ◌++◌, length, map, Bool, false, bytes_eq, position, Some, None, slice_get, ap, sym, refl, ◌∙◌, Result, Ok, Err, append-nil, append_assoc, arith}
use Rattle.std.proofs.lemmas.Option.{same_Some}
use Rattle.std.specs.Map.{keys_of, values_of, lookup}
use Rattle.std.specs.List.{AllByRecursion}
use Rattle.std.proofs.lemmas.Bool.{cases_Bool, cond-true, cond-false}
use Rattle.std.specs.Result.{IfErr, OnOk}
use Rattle.std.specs.List.{IsDistinct}
use Rattle.std.specs.Cmp.Lexicographic.{nat_list_eq_equiv}
use Rattle.indexmap.specs.IndexMap.{insert_all, set_value_at}
use Rattle.indexmap.proofs.MapLemmas.{insert_entry-first, insert_entry-absent, absent_from_lookup, Found-position}
use Rattle.conflict_desk.specs.Book.{Book, new_book, is_decided, is_cancelled, standing_by, standing_in, with_decision}
use Rattle.conflict_desk.specs.Desk.{book_of, decided_on, new_books}
use Rattle.conflict_desk.specs.declared.docket.Docket.{Docket}
use Rattle.conflict_desk.specs.declared.decided.Choice.{Choice}
use Rattle.visit_replay.specs.declared.outcome.Outcome.{Outcome}
use Rattle.visit_replay.specs.declared.outcome.Outcome.TheVariants as outcome
use Rattle.conflict_desk.specs.Laws.{IsBelowCancelled}
use Rattle.conflict_desk.specs.declared.docket.Case.{Case}
use Rattle.conflict_desk.specs.declared.decided.Standing.TheVariants as standing
use Rattle.conflict_desk.proofs.Chains.{below_cancelled, cancelled_below}
use Rattle.conflict_desk.proofs.Decisions.{decided_in}

pub value_same : (books : List (List ℕ × Book)) (place : ℕ) (book : Book) → slice_get (values_of books) place ≡ Some book → set_value_at books place book ≡ books
value_same [] place book at = refl
value_same (e ∷ books) zero book at = ap (λ b. (e.0, b) ∷ books) (sym (same_Some e.1 book at))
value_same (e ∷ books) (suc place) book at = ap (λ l. e ∷ l) (value_same books place book at)

module _ (client : List ℕ) (books : List (List ℕ × Book)) (place : ℕ) (at : Some place ≡ position (bytes_eq client) (keys_of books)) (book : Book)
    (here : Some book ≡ slice_get (values_of books) place) where
  pub book_here : book_of client books ≡ Some book
  book_here = (Found-position (bytes_eq client) books place (sym at)).value ∙ sym here

  pub decided_here : (visit : ℕ) (choice : Choice) (new : Book) → new ≡ with_decision visit choice book
      → set_value_at books place new ≡ decided_on client visit choice books
  decided_here visit choice new made =
      ap (set_value_at books place) made
      ∙ sym (insert_entry-first bytes_eq client (with_decision visit choice book) books place (Found-position (bytes_eq client) books place (sym at)).first)
      ∙ sym (ap (decided_in client visit choice books) book_here)

pub err_more : {T E : Type 0} (r : Result T E) (P Q : E → Type 0) → ((e : E) → P e → Q e) → IfErr r P → IfErr r Q
err_more (Ok x) P Q more holds = holds
err_more (Err e) P Q more holds = more e holds

pub ok_more : {T E : Type 0} (r : Result T E) (P Q : Type 0) → (P → Q) → OnOk r P → OnOk r Q
ok_more (Ok x) P Q more holds = more holds
ok_more (Err e) P Q more holds = holds

-- ---- dockets of clients that differ

absent_push : (k key : List ℕ) (book : Book) (books : List (List ℕ × Book)) → lookup (bytes_eq k) books ≡ None → bytes_eq k key ≡ false → lookup (bytes_eq k) (books ++ (key, book) ∷ []) ≡ None
absent_push k key book [] none other = cond-false (bytes_eq k key) (Some book) None other
absent_push k key book (e ∷ books) none other = grind (arith, absent_push k key book books)

all_absent : (key : List ℕ) (book : Book) (books : List (List ℕ × Book)) (dockets : List Docket) → AllByRecursion (λ docket. lookup (bytes_eq docket.client) books ≡ None) dockets
    → AllByRecursion (λ client. bytes_eq key client ≡ false) (map (λ docket. docket.client) dockets) → AllByRecursion (λ docket. lookup (bytes_eq docket.client) (books ++ (key, book) ∷ []) ≡ None) dockets
all_absent key book books [] none others = tt
all_absent key book books (docket ∷ dockets) none others =
    (absent_push docket.client key book books none.0 (nat_list_eq_equiv.symm docket.client key ∙ others.0), all_absent key book books dockets none.1 others.1)

-- with no client twice, the dockets stand behind one another
insert_behind : (books : List (List ℕ × Book)) (dockets : List Docket) → AllByRecursion (λ docket. lookup (bytes_eq docket.client) books ≡ None) dockets → IsDistinct bytes_eq (map (λ docket. docket.client) dockets)
    → insert_all bytes_eq books (new_books dockets) ≡ books ++ new_books dockets
unfolding IsDistinct
insert_behind books [] none distinct = sym (append-nil books)
insert_behind books (docket ∷ dockets) none distinct =
    ap (λ es. insert_all bytes_eq es (new_books dockets)) (insert_entry-absent bytes_eq docket.client (new_book docket.cases) books (absent_from_lookup (bytes_eq docket.client) books none.0))
    ∙ insert_behind (books ++ (docket.client, new_book docket.cases) ∷ []) dockets (all_absent docket.client (new_book docket.cases) books dockets none.1 distinct.0) distinct.1
    ∙ append_assoc books ((docket.client, new_book docket.cases) ∷ []) (new_books dockets)

none_yet : (dockets : List Docket) → AllByRecursion (λ docket. lookup {X = Book} (bytes_eq docket.client) [] ≡ None) dockets
none_yet [] = tt
none_yet (docket ∷ dockets) = (refl, none_yet dockets)

pub all_inserted : (dockets : List Docket) → IsDistinct bytes_eq (map (λ docket. docket.client) dockets) → insert_all bytes_eq [] (new_books dockets) ≡ new_books dockets
all_inserted dockets distinct = insert_behind [] dockets (none_yet dockets) distinct

-- ---- cancelled visits stand cancelled, and no others

never_by : (o : Outcome) (decided : Bool) → standing_by o decided ≡ standing.Cancelled → ⊥
never_by o decided is = grind arith

pub stands_below : (book : Book) (c : Case) → standing_in book c ≡ standing.Cancelled → IsBelowCancelled book c
stands_below book c stands =
    below_cancelled book c (grind (arith, cases_Bool (is_cancelled book c), never_by c.outcome (is_decided book.decisions c.visit)))

pub below_stands : (book : Book) (c : Case) → IsBelowCancelled book c → standing_in book c ≡ standing.Cancelled
below_stands book c below = cond-true (is_cancelled book c) standing.Cancelled (standing_by c.outcome (is_decided book.decisions c.visit)) (cancelled_below book c below)

pub all_opened : (books : List (List ℕ × Book)) (rest first dockets : List Docket) → insert_all bytes_eq books (new_books rest) ≡ insert_all bytes_eq [] (new_books first) → length rest ≡ 0 → first ≡ dockets
    → IsDistinct bytes_eq (map (λ docket. docket.client) dockets) → books ≡ new_books dockets
all_opened books [] first dockets so_far none same distinct = so_far ∙ ap (λ ds. insert_all bytes_eq [] (new_books ds)) same ∙ all_inserted dockets distinct
all_opened books (docket ∷ rest) first dockets so_far none same distinct = absurd (omega (arith, none))

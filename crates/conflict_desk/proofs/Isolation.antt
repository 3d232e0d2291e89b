-- Each client's decisions are made by themselves.
use Rattle.std.proofs.Common.{◌≡◌, ℕ, List, [], ◌∷◌, Bool, true, false, cond, bytes_eq, nat_eq, Option, Some, None, ap, sym, refl, subst, ◌∙◌, arith}
use Rattle.std.proofs.lemmas.Bool.{cond-true, cond-false}
use Rattle.std.proofs.lemmas.Slice.Eq.{bytes_eq-Decides}
use Rattle.std.specs.Map.{lookup}
use Rattle.std.specs.List.{filter}
use Rattle.std.specs.Option.{option_eq, option_map_or}
use Rattle.indexmap.specs.IndexMap.{insert_entry}
use Rattle.conflict_desk.specs.Book.{Book, front_visit, with_decision}
use Rattle.conflict_desk.specs.Desk.{Books, book_of, refusal_of, after_call, after_calls}
use Rattle.conflict_desk.specs.Laws.{IsIsolated}
use Rattle.conflict_desk.specs.declared.decision.Decision.{Decision}
use Rattle.conflict_desk.specs.declared.decided.Choice.{Choice}
use Rattle.conflict_desk.specs.declared.fault.DeskFault.TheVariants.{NoClient, NotFront}
use Rattle.conflict_desk.proofs.Decisions.{decided_in, unless_refused}

same_key : (a b : List ℕ) → bytes_eq a b ≡ true → a ≡ b
same_key a b is = (bytes_eq-Decides a b).0 is

module _ (client : List ℕ) where
  -- ---- one book

  abbrev found : Books → Option Book
  found books = lookup (bytes_eq client) books

  -- what is inserted under that key is found
  own_behind : (new : Book) (e : List ℕ × Book) (books : Books) (b : Bool) → bytes_eq client e.0 ≡ b
      → found (insert_entry bytes_eq books client new) ≡ Some new → found (insert_entry bytes_eq (e ∷ books) client new) ≡ Some new
  own_behind new e books true is rest =
      ap found (cond-true (bytes_eq client e.0) ((e.0, new) ∷ books) (e ∷ insert_entry bytes_eq books client new) is)
      ∙ cond-true (bytes_eq client e.0) (Some new) (found books) is
  own_behind new e books false is rest =
      ap found (cond-false (bytes_eq client e.0) ((e.0, new) ∷ books) (e ∷ insert_entry bytes_eq books client new) is)
      ∙ cond-false (bytes_eq client e.0) (Some e.1) (found (insert_entry bytes_eq books client new)) is ∙ rest

  own : (new : Book) (books : Books) → found (insert_entry bytes_eq books client new) ≡ Some new
  own new [] = cond-true (bytes_eq client client) (Some new) None ((bytes_eq-Decides client client).1 refl)
  own new (e ∷ books) = own_behind new e books (bytes_eq client e.0) refl (own new books)

  module _ (key : List ℕ) (new : Book) (differs : bytes_eq client key ≡ false) where
    -- and nothing else changes what is found
    other_behind : (e : List ℕ × Book) (books : Books) (b : Bool) → bytes_eq key e.0 ≡ b
        → found (insert_entry bytes_eq books key new) ≡ found books → found (insert_entry bytes_eq (e ∷ books) key new) ≡ found (e ∷ books)
    other_behind e books true is rest =
        let not : bytes_eq client e.0 ≡ false = ap (bytes_eq client) (sym (same_key key e.0 is)) ∙ differs in
        ap found (cond-true (bytes_eq key e.0) ((e.0, new) ∷ books) (e ∷ insert_entry bytes_eq books key new) is)
        ∙ cond-false (bytes_eq client e.0) (Some new) (found books) not ∙ sym (cond-false (bytes_eq client e.0) (Some e.1) (found books) not)
    other_behind e books false is rest =
        ap found (cond-false (bytes_eq key e.0) ((e.0, new) ∷ books) (e ∷ insert_entry bytes_eq books key new) is)
        ∙ ap (λ behind. cond (bytes_eq client e.0) (Some e.1) behind) rest

    other : (books : Books) → found (insert_entry bytes_eq books key new) ≡ found books
    other [] = cond-false (bytes_eq client key) (Some new) None differs
    other (e ∷ books) = other_behind e books (bytes_eq key e.0) refl (other books)

  -- ---- one call

  -- how the client's book is behind a call of that key, which finds that book
  abbrev After : List ℕ → ℕ → Choice → Books → Option Book → Option Book
  After key visit choice books found =
      book_of client (unless_refused (option_map_or (refusal_of visit) found (Some NoClient)) (decided_in key visit choice books found) books)

  module _ (visit : ℕ) (choice : Choice) (books books' : Books) (same : book_of client books ≡ book_of client books') where
    own_test : (book : Book) (b : Bool)
        → book_of client (unless_refused (cond b None (Some (NotFront (front_visit book)))) (insert_entry bytes_eq books client (with_decision visit choice book)) books)
        ≡ book_of client (unless_refused (cond b None (Some (NotFront (front_visit book)))) (insert_entry bytes_eq books' client (with_decision visit choice book)) books')
    own_test book true = own (with_decision visit choice book) books ∙ sym (own (with_decision visit choice book) books')
    own_test book false = same

    own_found : (found : Option Book) → After client visit choice books found ≡ After client visit choice books' found
    own_found None = same
    own_found (Some book) = own_test book (option_eq nat_eq (front_visit book) (Some visit))

    own_call : (key : List ℕ) → client ≡ key
        → After key visit choice books (book_of key books) ≡ After key visit choice books' (book_of key books')
    own_call key is =
        subst (λ key. After key visit choice books (book_of key books) ≡ After key visit choice books' (book_of key books')) is
        (own_found (book_of client books) ∙ ap (After client visit choice books') same)

  module _ (key : List ℕ) (visit : ℕ) (choice : Choice) (differs : bytes_eq client key ≡ false) (books : Books) where
    other_test : (book : Book) (b : Bool)
        → book_of client (unless_refused (cond b None (Some (NotFront (front_visit book)))) (insert_entry bytes_eq books key (with_decision visit choice book)) books) ≡ book_of client books
    other_test book true = other key (with_decision visit choice book) differs books
    other_test book false = refl

    other_found : (found : Option Book) → After key visit choice books found ≡ book_of client books
    other_found None = refl
    other_found (Some book) = other_test book (option_eq nat_eq (front_visit book) (Some visit))

  -- ---- any calls

  abbrev is_own : Decision → Bool
  is_own call = bytes_eq client call.client

  by_client : (call : Decision) (calls : List Decision) (books books' : Books) → book_of client books ≡ book_of client books' → (b : Bool) → is_own call ≡ b
      → ((books books' : Books) → book_of client books ≡ book_of client books'
      → book_of client (after_calls books calls) ≡ book_of client (after_calls books' (filter is_own calls)))
      → book_of client (after_calls (after_call books call) calls) ≡ book_of client (after_calls books' (cond b (call ∷ filter is_own calls) (filter is_own calls)))
  by_client call calls books books' same true own rest =
      rest (after_call books call) (after_call books' call) (own_call call.visit call.choice books books' same call.client (same_key client call.client own))
  by_client call calls books books' same false differs rest =
      rest (after_call books call) books' (other_found call.client call.visit call.choice differs books (book_of call.client books) ∙ same)

  isolated_from : (calls : List Decision) (books books' : Books) → book_of client books ≡ book_of client books'
      → book_of client (after_calls books calls) ≡ book_of client (after_calls books' (filter is_own calls))
  isolated_from [] books books' same = same
  isolated_from (call ∷ calls) books books' same = by_client call calls books books' same (is_own call) refl (isolated_from calls)

pub isolated : (books : Books) → IsIsolated books
isolated books calls client = isolated_from client calls books books refl

-- What holds of the fields of an open docket.
use Rattle.std.specs.Prelude.{◌≡◌, ℕ, ◌<◌, ◌≤◌, List, [], length, Bool, true, false, Some, slice_get, vec_capacity}
use Rattle.std.specs.Option.{option_map_or}
use Rattle.conflict_desk.specs.Docket.{AreAscending}
use Rattle.conflict_desk.specs.Book.{Book, is_decided, is_cancelled, waits}
use Rattle.conflict_desk.specs.inside.Links.{AreLinks}
use Rattle.conflict_desk.specs.inside.Settling.{Tell}
use Rattle.conflict_desk.specs.declared.docket.Case.{Case}
use Rattle.conflict_desk.specs.declared.links.Link.{Link}
use Rattle.conflict_desk.specs.declared.open_docket.OpenDocket.TheInside.{Inside}

abbrev pub book_in : Inside → Book
book_in o = record { cases = o.cases; decisions = o.decisions.items }

-- The front is at that place, or it is the end. The flags before it tell which visits are cancelled, and nothing from
-- it on is decided.
pub record IsKept (book : Book) (links : List Link) (flags : List Bool) (next : ℕ) : Type 0 where
  pub ascending : AreAscending book.cases
  pub links_are : AreLinks book.cases links
  pub links_count : length links ≡ length book.cases
  pub flags_count : length flags ≡ length book.cases
  pub within : next ≤ length book.cases
  pub tell : Tell (λ k. option_map_or (is_cancelled book) (slice_get book.cases k) false) next flags
  pub passed : (k : ℕ) (case : Case) → k < next → slice_get book.cases k ≡ Some case → waits book case ≡ false
  pub undecided : (k : ℕ) (case : Case) → next ≤ k → slice_get book.cases k ≡ Some case
      → is_decided book.decisions case.visit ≡ false
  pub front : (case : Case) → slice_get book.cases next ≡ Some case → waits book case ≡ true
  pub few : length book.decisions ≤ next

abbrev pub IsOpenDocket : Inside → Type 0
IsOpenDocket o = IsKept (book_in o) o.links.items o.gone.items o.next × (length o.cases ≤ vec_capacity o.decisions)
    × (o.none ≡ [])

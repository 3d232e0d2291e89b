-- What single visits have of their own, once a client's visits are others.
use Rattle.std.proofs.Common.{◌≡◌, ℕ, List, Bool, true, false, ◌==◌, ◌&&◌, if◌then◌else◌, Option, Some, None, refl, arith}
use Rattle.std.proofs.lemmas.Bool.Decides.{nat_tests}
use Rattle.std.proofs.lemmas.Slice.Eq.{bytes_eq-Decides}
use Rattle.std.specs.Ordering.{is_eq, nat_cmp}
use Rattle.std.specs.Prelude.{option_and_then, bytes_eq}
use Rattle.page_tree.specs.Tree.{Tree}

pub same_text : (a b : List ℕ) → bytes_eq a b ≡ true → a ≡ b
same_text a b is = (bytes_eq-Decides a b).0 is

pub same_number : (a b : ℕ) → is_eq (nat_cmp a b) ≡ (a == b)
same_number a b = grind (arith, nat_tests)

module _ {M : Type 0} (at : M → ℕ → Option Tree) (number : ℕ) where
  -- what those have of which these are the visits
  abbrev pub page_among : Option M → Option Tree
  page_among visits = option_and_then (λ m. at m number) visits

  -- whether it is the client that has others now, and whether it is the visit that has another page
  pub one_more : (is_client is_visit : Bool) (page : Tree) (now : M) (had before after : Option M) → (is_client ≡ true → before ≡ had)
      → after ≡ (if is_client then Some now else before) → at now number ≡ (if is_visit then Some page else page_among had)
      → page_among after ≡ (if is_client && is_visit then Some page else page_among before)
  one_more true true page now had before after same is has = rw is has
  one_more true false page now had before after same is has = rw (is, same refl) has
  one_more false is_visit page now had before after same is has = rw is refl

  pub none_more : (is_client : Bool) (now : M) (had before after : Option M) → (is_client ≡ true → before ≡ had)
      → after ≡ (if is_client then Some now else before) → at now number ≡ page_among had → page_among after ≡ page_among before
  none_more true now had before after same is has = rw (is, same refl) has
  none_more false now had before after same is has = rw is refl

-- What an event does at a node of a page.
use Rattle.std.specs.Prelude.{ℕ, List, Option}

-- by the numbers of nodes, and of the request that it makes, 0 for none
pub data Deed : Type 0 where
  Typed : (field : ℕ) → (value : List ℕ) → Deed
  Clicked : (node req : ℕ) → Deed
  Sent : (form : ℕ) → (button : Option ℕ) → (req : ℕ) → Deed

-- those of a visit, in order
pub record DeedList : Type 0 where
  pub items : List Deed

-- A page as the first deeds of a trail filled it in.
use Rattle.std.specs.Prelude.{ℕ, ◌≡◌, ◌<◌, ◌≤◌, List, take, length, slice_get, IfSome, Option, Some, option_map, true}
use Rattle.page_tree.specs.Tree.{Tree}
use Rattle.page_tree.specs.Limits.{nodes}
use Rattle.visit_replay.specs.inside.KeptFields.{Hold}
use Rattle.visit_replay.specs.inside.Senders.{AreRight, HasPlaces}
use Rattle.visit_replay.specs.inside.Deed.{Deed, Sent}
use Rattle.visit_replay.specs.inside.Deeds.{text_behind, is_on_behind}
use Rattle.visit_replay.specs.declared.board.Board.{Board}
use Rattle.visit_replay.specs.declared.trail.Trail.{Trail}

-- the page whose nodes are known, if any
abbrev pub known_page : Board → Option Tree
known_page board = option_map (λ page. page.now) board.known

-- it has room for pages of so many nodes, and what is known of nodes is right
pub record IsWide (board : Board) : Type 0 where
  pub texts : board.nodes ≤ length board.fields.texts.items
  pub turned : board.nodes ≤ length board.fields.turned.items
  pub senders : HasPlaces board.nodes board.senders
  pub known : IfSome (known_page board) (λ page. AreRight board.names.now page board.senders)

-- how far it has gone along these deeds, what the fields hold there, and that the page's nodes are known, once a form
-- was listed
pub record IsOn (page : Tree) (deeds : List Deed) (board : Board) : Type 0 where
  pub wide : IsWide board
  pub few : nodes page ≤ board.nodes
  pub within : board.at ≤ length deeds
  pub held : Hold board.fields page (text_behind page (take board.at deeds)) (is_on_behind page (take board.at deeds))
  pub listed : board.is_listed ≡ true → known_page board ≡ Some page

-- what the form sends that this deed sends, if any, is listed
abbrev pub IsListedFor : Board → Deed → Type 0
IsListedFor board (Sent form button req) = (board.is_listed ≡ true) × (board.senders.form ≡ Some form)
IsListedFor board other = Unit {0}

-- it stands before the deed at that place, and what that needs is there
pub record IsBefore (trail : Trail) (place : ℕ) (board : Board) : Type 0 where
  pub on : IsOn trail.page trail.deeds.items board
  pub at : board.at ≡ place
  pub there : place < length trail.deeds.items
  pub ready : IfSome (slice_get trail.deeds.items place) (IsListedFor board)

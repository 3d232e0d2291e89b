-- What contracts see of a LaneQueue.
use Rattle.std.specs.Prelude.{◌≡◌, ℕ}
use Rattle.atomic_table.specs.Seated.{TableId}
use Rattle.crossbeam_queue.specs.Passes.{Pass}
use Rattle.lane_queue.specs.declared.item.Item.{Item}
use Rattle.lane_queue.specs.declared.view.QueueView.{QueueView}

-- which queue it is, and how many items it holds at the most
pub record Queue : Type 0 where
  pub table_id : TableId
  pub room : ℕ

-- a putter's pass, or the taker's
abbrev pub PassOf : Type 0 → Type 0
PassOf T = Pass (Item T) (QueueView T)

-- a putter or the taker is one of that queue
abbrev pub IsPassOf : {T : Type 0} → Queue → PassOf T → Type 0
IsPassOf queue pass = pass.table_id ≡ queue.table_id

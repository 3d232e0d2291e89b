-- The queue as a machine: what one step after another does to what was put, to the row, and to what was taken.
use Rattle.std.specs.Prelude.{◌≡◌, ℕ, Bool, true, ◌&&◌, not, nat_lt, if◌then◌else◌, List, [], ◌∷◌, ◌++◌, length, take, drop, slice_get}
use Rattle.std.specs.Option.{option_map_or}
use Rattle.lane_queue.specs.declared.item.Item.{Item}
use Rattle.lane_queue.specs.declared.queue_core.QueueStep.{QueueStep}
use Rattle.lane_queue.specs.declared.queue_core.QueueStep.TheVariants as step
use Rattle.lane_queue.specs.declared.queue_core.Did.{Did}
use Rattle.lane_queue.specs.declared.queue_core.Did.TheVariants as did
use Rattle.lane_queue.specs.Items.{of_lane, has_last, next_item}

-- how many items the row has room for, how many lanes there are, and the items that were put, that wait in the row, and
-- that were taken
pub record Machine : Type 0 where
  pub room : ℕ
  pub lanes : ℕ
  pub put : List (Item ℕ)
  pub row : List (Item ℕ)
  pub got : List (Item ℕ)

abbrev pub opening : ℕ → ℕ → Machine
opening lanes room = record { room = room; lanes = lanes; put = []; row = []; got = [] }

-- the lane exists, has not ended, and the row has room
abbrev pub may_put : Machine → ℕ → Bool
may_put m lane = nat_lt lane m.lanes && not (has_last (of_lane lane m.put)) && nat_lt (length m.row) m.room

abbrev pub with_item : Machine → Item ℕ → Machine
with_item m x = record m { put = m.put ++ x ∷ []; row = m.row ++ x ∷ [] }

-- an item is put at the back, if it may; the front is taken, if there is one
abbrev pub after_step : Machine → QueueStep → Machine
after_step m (step.Put lane item last) =
    if may_put m lane then with_item m (next_item lane (of_lane lane m.put) last item) else m
after_step m step.Take = record m { row = drop 1 m.row; got = m.got ++ take 1 m.row }

abbrev pub answer : Machine → QueueStep → Did
answer m (step.Put lane item last) = if may_put m lane then did.Put else did.Refused
answer m step.Take = option_map_or (λ x. did.Took x) (slice_get m.row 0) did.Empty

-- first in, first out, lane by lane: what was taken, and then the row, is what was put
abbrev pub IsFifo : Machine → Type 0
IsFifo m = (lane : ℕ) → of_lane lane m.got ++ of_lane lane m.row ≡ of_lane lane m.put

-- once a lane's last item was taken, all that was put in it was taken
abbrev pub HasWhole : Machine → Type 0
HasWhole m = (lane : ℕ) → has_last (of_lane lane m.got) ≡ true → of_lane lane m.got ≡ of_lane lane m.put

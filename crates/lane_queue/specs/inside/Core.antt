-- How the machine is kept: all items in one list, and how many of them were taken.
use Rattle.std.specs.Prelude.{◌≡◌, ℕ, ◌<◌, ◌≤◌, Bool, false, List, length, get_or, take, drop}
use Rattle.lane_queue.specs.declared.item.Item.{Item}
use Rattle.lane_queue.specs.Items.{of_lane, has_last, AreNumbered}
use Rattle.lane_queue.specs.Core.{Machine}

abbrev pub machine_of : ℕ → List (Item ℕ) → ℕ → List ℕ → Machine
machine_of room items taken counts =
    record { room = room; lanes = length counts; put = items; row = drop taken items; got = take taken items }

-- the counts, and which lanes are over, are those of the items
pub record IsMachine (items : List (Item ℕ)) (taken : ℕ) (counts : List ℕ) (over : List Bool) : Type 0 where
  pub some : taken ≤ length items
  pub lanes : (lane : ℕ) → AreNumbered (of_lane lane items)
  pub long : length over ≡ length counts
  pub counted : (lane : ℕ) → lane < length counts → get_or counts lane 0 ≡ length (of_lane lane items)
  pub ended : (lane : ℕ) → lane < length counts → get_or over lane false ≡ has_last (of_lane lane items)

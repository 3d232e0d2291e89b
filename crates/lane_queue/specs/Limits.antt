-- This project's own limits on queues.
use Rattle.std.specs.Prelude.{◌≤◌, ◌^◌, ◌*◌, ℕ}

abbrev pub max_lanes : ℕ
max_lanes = 16

-- how many items one lane has at the most
abbrev pub max_lane_items : ℕ
max_lane_items = 2 ^ 57

-- how many items all lanes together have at the most: a recorder that counts them in 64 bits stays far below the end
abbrev pub max_items : ℕ
max_items = max_lanes * max_lane_items

-- how many items a queue holds at the most
abbrev pub max_room : ℕ
max_room = 65536

-- so many items may it hold; any other number is Q2
pub record IsRoom (room : ℕ) : Type 0 where
  pub some : 1 ≤ room
  pub few : room ≤ max_room

-- so many lanes may a queue have; any other number is Q1
pub record AreLanes (lanes : ℕ) : Type 0 where
  pub some : 1 ≤ lanes
  pub few : lanes ≤ max_lanes

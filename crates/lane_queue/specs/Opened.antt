-- What is made where lanes are opened: the queue, its taker, and a putter for each lane.
use Rattle.std.specs.Prelude.{◌≡◌, ℕ, true, false, List, [], map, All}
use Rattle.std.specs.List.{range_with_len}
use Rattle.crossbeam_queue.specs.Passes.{view}
use Rattle.lane_queue.specs.declared.view.QueueView.{QueueView}
use Rattle.lane_queue.specs.Queue.{Queue, PassOf, IsPassOf}

module _ {T : Type 0} where
  -- a taker of so many lanes, which has taken nothing
  abbrev pub fresh_taker : ℕ → QueueView T
  fresh_taker lanes = record { takes = true; made = lanes; got = []; puts = false; lane = 0; put = [] }

  -- a putter of that lane, which has put nothing
  abbrev pub fresh_putter : ℕ → QueueView T
  fresh_putter lane = record { takes = false; made = 0; got = []; puts = true; lane = lane; put = [] }

  -- a putter of that queue which has put nothing
  abbrev pub IsNewPutterOf : Queue → PassOf T → Type 0
  IsNewPutterOf queue p = IsPassOf queue p × ((view p).put ≡ [])

  -- a putter for each lane, in lane order
  pub record ArePutters (queue : Queue) (lanes : ℕ) (putters : List (PassOf T)) : Type 0 where
    pub views : map view putters ≡ map fresh_putter (range_with_len 0 lanes)
    pub fresh : All (IsNewPutterOf queue) putters

  pub record IsOpenedQueue (lanes room : ℕ) (queue : Queue) (taker : PassOf T) (all : List (PassOf T)) : Type 0 where
    pub room_is : queue.room ≡ room
    pub taker_of : IsPassOf queue taker
    pub taker_is : view taker ≡ fresh_taker lanes
    pub putters_are : ArePutters queue lanes all

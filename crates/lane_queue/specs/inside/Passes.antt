-- What the steps of a pass ask for, and what putters and the taker keep beside theirs.
use Rattle.std.specs.Prelude.{◌≡◌, ℕ, ◌<◌, Bool, true, false, not, List, [], length, map, get_or}
use Rattle.std.specs.List.{count_by, range_with_len}
use Rattle.crossbeam_queue.specs.Passes.{view}
use Rattle.lane_queue.specs.declared.item.Item.{Item}
use Rattle.lane_queue.specs.declared.view.QueueView.{QueueView}
use Rattle.lane_queue.specs.Items.{of_lane, has_last, next_item}
use Rattle.lane_queue.specs.Queue.{Queue, PassOf, IsPassOf}
use Rattle.lane_queue.specs.Limits.{max_lane_items}

module _ {T : Type 0} where
  -- the taker's pass that takes in a putter's, which is then spent
  abbrev pub with_putter : QueueView T → QueueView T → QueueView T
  with_putter v w = record v { puts = true; lane = w.lane; put = w.put }

  -- it is one of that queue, and nothing of the queue is out with it
  abbrev pub IsWholePass : Queue → PassOf T → Type 0
  IsWholePass queue pass = IsPassOf queue pass × (pass.me.1 ≡ [])

  -- the item is what its lane gets next
  abbrev pub MayPut : QueueView T → Item T → Type 0
  MayPut v x = (v.puts ≡ true) × (length v.put < max_lane_items) × (has_last v.put ≡ false)
      × (x ≡ next_item v.lane v.put x.last x.body)

  -- the numbers that a putter keeps are those of its pass
  pub record IsPutter (pass : PassOf T) (lane next : ℕ) (over : Bool) : Type 0 where
    pub whole : pass.me.1 ≡ []
    pub puts : (view pass).puts ≡ true
    pub lane_is : lane ≡ (view pass).lane
    pub next_is : next ≡ length (view pass).put
    pub over_is : over ≡ has_last (view pass).put

  -- how many of the first lanes have not ended, where these were taken
  abbrev pub running_lanes : List (Item T) → ℕ → ℕ
  running_lanes got lanes = count_by not (map (λ lane. has_last (of_lane lane got)) (range_with_len 0 lanes))

  -- the counts that a taker keeps are those of its pass
  pub record IsTaker (pass : PassOf T) (counts : List ℕ) (running : ℕ) : Type 0 where
    pub whole : pass.me.1 ≡ []
    pub takes : (view pass).takes ≡ true
    pub long : length counts ≡ (view pass).made
    pub counted : (lane : ℕ) → lane < (view pass).made → get_or counts lane 0 ≡ length (of_lane lane (view pass).got)
    pub running_is : running ≡ running_lanes (view pass).got (view pass).made

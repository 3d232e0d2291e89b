-- What the answers say of what a putter or the taker knew before and after.
use Rattle.std.specs.Prelude.{◌≡◌, ℕ, ◌<◌, ◌≤◌, Bool, true, false, List, ◌++◌, length}
use Rattle.crossbeam_queue.specs.Fifo.{Held}
use Rattle.lane_queue.specs.declared.item.Item.{Item}
use Rattle.lane_queue.specs.declared.view.QueueView.{QueueView}
use Rattle.lane_queue.specs.declared.answers.Put.{Put}
use Rattle.lane_queue.specs.declared.answers.Put.TheVariants as put
use Rattle.lane_queue.specs.declared.answers.TryPut.{TryPut}
use Rattle.lane_queue.specs.declared.answers.TryPut.TheVariants as try_put
use Rattle.lane_queue.specs.declared.answers.Take.{Take}
use Rattle.lane_queue.specs.declared.answers.Take.TheVariants as take
use Rattle.lane_queue.specs.declared.answers.TryTake.{TryTake}
use Rattle.lane_queue.specs.declared.answers.TryTake.TheVariants as try_take
use Rattle.lane_queue.specs.Items.{of_lane, has_last, next_item}
use Rattle.lane_queue.specs.Rule.{with_put, TakesItem, IsSeen}

module _ {T : Type 0} where
  -- the body goes into the lane as its next item, as its last one or not; or it comes back, and nothing changes
  abbrev pub Puts : QueueView T → QueueView T → Bool → T → Put T → Type 0
  Puts v w last body put.Done = (has_last v.put ≡ false) × (w ≡ with_put v (next_item v.lane v.put last body))
  Puts v w last body (put.Closed back) = (has_last v.put ≡ false) × (back ≡ body) × (w ≡ v)
  Puts v w last body (put.Over back) = (has_last v.put ≡ true) × (back ≡ body) × (w ≡ v)

  -- the same of one try; at Full there is a state of the rule, for a pass that knows this, in which a queue of n items'
  -- room is full
  abbrev pub TriesToPut : ℕ → QueueView T → QueueView T → T → TryPut T → Type 0
  TriesToPut n v w body try_put.Done = Puts v w false body put.Done
  TriesToPut n v w body (try_put.Full back) = (has_last v.put ≡ false) × (back ≡ body) × (w ≡ v) × Held n (IsSeen v)
  TriesToPut n v w body (try_put.Closed back) = Puts v w false body (put.Closed back)
  TriesToPut n v w body (try_put.Over back) = Puts v w false body (put.Over back)

  -- each lane's last item was taken
  abbrev pub AreEnded : QueueView T → Type 0
  AreEnded v = (lane : ℕ) → lane < v.made → has_last (of_lane lane v.got) ≡ true

  abbrev pub TakesOne : QueueView T → QueueView T → Take T → Type 0
  TakesOne v w (take.Item x) = TakesItem v x w
  TakesOne v w take.AllEnded = AreEnded v × (w ≡ v)

  -- the same of one try; at Empty not all have ended, and there is such a state in which the queue is empty
  abbrev pub TriesToTake : QueueView T → QueueView T → TryTake T → Type 0
  TriesToTake v w (try_take.Item x) = TakesItem v x w
  TriesToTake v w try_take.AllEnded = AreEnded v × (w ≡ v)
  TriesToTake v w try_take.Empty = (¬ AreEnded v) × (w ≡ v) × Held 0 (IsSeen v)

  -- what was put in the putter's lane (w) is what the taker (v) took of it, and then so many items, which a queue of n
  -- items' room holds
  abbrev pub LeavesRest : ℕ → QueueView T → QueueView T → ℕ → Type 0
  LeavesRest n v w many = (rest : List (Item T)) × (w.put ≡ of_lane w.lane v.got ++ rest) × (many ≡ length rest)
      × (many ≤ n)

-- The rule of the queue: what holds between any two steps of any threads.
use Rattle.std.specs.Prelude.{◌≡◌, ℕ, ◌<◌, ◌≤◌, true, false, List, [], ◌∷◌, ◌++◌, length, slice_index}
use mathlib.Core.Option.{some}
use lib.ListN.{get_elem?}
use Rattle.lane_queue.specs.declared.item.Item.{Item}
use Rattle.lane_queue.specs.declared.view.QueueView.{QueueView}
use Rattle.lane_queue.specs.Limits.{max_lane_items}
use Rattle.lane_queue.specs.Items.{of_lane, has_last, AreNumbered}

module _ {T : Type 0} where
  -- what a pass knows is so, where these were taken, `all` were put, and these are the passes of the lanes' putters;
  -- the taker's is the first
  pub record KnowsItems (putters : List ℕ) (got all : List (Item T)) (pass : ℕ) (v : QueueView T) : Type 0 where
    pub taken : v.takes ≡ true → (pass ≡ 0) × (v.made ≡ length putters) × (v.got ≡ got)
    pub put : v.puts ≡ true
        → (v.lane < length putters) × (pass ≡ slice_index putters v.lane) × (v.put ≡ of_lane v.lane all)

  -- first in, first out: what was taken and what the queue holds are together what was put
  pub record KeepsOrder (held : List (Item T)) (views : List (QueueView T)) : Type 0 where
    pub putters : List ℕ
    pub got : List (Item T)
    pub lanes : (lane : ℕ) → AreNumbered (of_lane lane (got ++ held))
    pub few : (lane : ℕ) → length (of_lane lane (got ++ held)) ≤ max_lane_items
    pub unmade : (lane : ℕ) → length putters ≤ lane → of_lane lane (got ++ held) ≡ []
    pub passes : (n : ℕ) (v : QueueView T) → get_elem? views n ≡ some v → KnowsItems putters got (got ++ held) n v

  abbrev pub with_put : QueueView T → Item T → QueueView T
  with_put v x = record v { put = v.put ++ x ∷ [] }

  -- the item that was taken is one of the lanes, and the next of its lane
  pub record TakesItem (v : QueueView T) (x : Item T) (w : QueueView T) : Type 0 where
    pub after : w ≡ record v { got = v.got ++ x ∷ [] }
    pub lane : x.lane < v.made
    pub number : x.number ≡ length (of_lane x.lane v.got)
    pub small : x.number < max_lane_items
    pub unended : has_last (of_lane x.lane v.got) ≡ false

  -- a state of the rule in which the queue holds that and some pass has this view
  abbrev pub IsSeen : QueueView T → List (Item T) → Type 0
  IsSeen v held = (views : List (QueueView T)) × (pass : ℕ) × KeepsOrder held views × (get_elem? views pass ≡ some v)

-- The items of lanes: how they are numbered, and which is the last.
use Rattle.std.specs.Prelude.{◌≡◌, ℕ, ◌==◌, Bool, false, List, ◌∷◌, ◌++◌, length, filter}
use Rattle.std.specs.List.{list_any}
use Rattle.lane_queue.specs.declared.item.Item.{Item}

module _ {T : Type 0} where
  -- those of one lane, in order
  abbrev pub of_lane : ℕ → List (Item T) → List (Item T)
  of_lane lane items = filter (λ x. x.lane == lane) items

  abbrev pub has_last : List (Item T) → Bool
  has_last items = list_any (λ x. x.last) items

  -- what a lane in which these were put gets next
  abbrev pub next_item : ℕ → List (Item T) → Bool → T → Item T
  next_item lane put last body = record { lane = lane; number = length put; last = last; body = body }

  -- what was put in one lane: each item is numbered by how many came before it, none of them as the last
  abbrev pub AreNumbered : List (Item T) → Type 0
  AreNumbered items = (before after : List (Item T)) (x : Item T) → items ≡ before ++ x ∷ after
      → (x.number ≡ length before) × (has_last before ≡ false)

-- Where the first deed of a trail stands that asked for something with a number, as the code looks for it.
use Rattle.std.specs.Prelude.{ℕ, ◌≡◌, ◌==◌, ◌<◌, ◌≤◌, length, Bool, false, Option, IfSome}
use Rattle.std.specs.BTreeMap.{BTreeMap, get}
use Rattle.std.specs.List.{find, range_with_len}
use Rattle.std.specs.Option.{option_map_or}
use Rattle.std.specs.Ordering.{nat_cmp}
use Rattle.visit_replay.specs.declared.first_deeds.FirstDeeds.{FirstDeeds}
use Rattle.visit_replay.specs.declared.requests.Request.{Request}
use Rattle.visit_replay.specs.declared.trail.Trail.{Trail}
use Rattle.visit_replay.specs.inside.Trails.{asked_at}

-- it asked for something with that number
abbrev pub is_asked_as : ℕ → Option Request → Bool
is_asked_as number asked = option_map_or (λ r. r.number == number) asked false

-- the first of a trail's places at which the deed did
abbrev pub first_asked : Trail → ℕ → Option ℕ
first_asked trail number =
    find (λ place. is_asked_as number (asked_at trail place)) (range_with_len 0 (length trail.deeds.items))

-- that of each number
abbrev pub HasFirst : Trail → BTreeMap ℕ ℕ → Type 0
HasFirst trail places = (number : ℕ) → get nat_cmp places number ≡ first_asked trail number

-- the deeds before that place asked with no number above the last
abbrev pub HavePassed : Trail → ℕ → ℕ → Type 0
HavePassed trail from last = (place : ℕ) → place < from → IfSome (asked_at trail place) (λ r. r.number ≤ last)

-- how far they were looked for
pub record FindsFirst (trail : Trail) (firsts : FirstDeeds) : Type 0 where
  pub passed : HavePassed trail firsts.from firsts.last
  pub places : IfSome firsts.places (HasFirst trail)

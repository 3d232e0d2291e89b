-- What a thread makes of a lane that it drew.
use Rattle.std.specs.Prelude.{ℕ, List, [], ◌∷◌}
use Rattle.lanes_in_turn.specs.Taking.{never}
use Rattle.lanes_in_turn.specs.declared.gathered.LaneResult.{LaneResult}
use Rattle.upload_lanes.specs.inside.Party.{TakesByOne}
use Rattle.replay_folder.specs.declared.at_once.TakenLane.{TakenLane}

-- it is what was taken of that lane, to its end unless memory was refused
abbrev pub IsTakenOf : {R : Type 0} → List ℕ × LaneResult R → TakenLane R → Type 0
IsTakenOf fresh taken = TakesByOne never 0 (fresh ∷ []) (taken.lane ∷ []) taken.stop

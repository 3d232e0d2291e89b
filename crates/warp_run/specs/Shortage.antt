-- Whether memory was refused while uploads were taken: this project's own rule.
use Rattle.std.specs.Prelude.{List, Bool, true, false, if◌then◌else◌, Option, Some}
use Rattle.std.specs.List.{list_any}
use Rattle.indexmap.specs.IndexMap.{values}
use Rattle.upload_reader.specs.declared.ending.Ending.{Ending}
use Rattle.upload_reader.specs.declared.ending.Ending.TheVariants.{GaveUp}
use Rattle.lanes_in_turn.specs.declared.gathered.Gathered.{Gathered}
use Rattle.lanes_in_turn.specs.declared.gathered.LaneResult.{LaneResult}
use Rattle.lanes_in_turn.specs.declared.gathered.Stop.{Stop}
use Rattle.lanes_in_turn.specs.declared.gathered.Stop.TheVariants as stops
use Rattle.warp_run.specs.declared.status.Status.{Status}
use Rattle.warp_run.specs.declared.status.Status.TheVariants.{Done, OutOfMemory}

abbrev pub gave_up : Option Ending → Bool
gave_up (Some GaveUp) = true
gave_up other = false

module _ {R : Type 0} where
  abbrev pub status_of_lanes : List (LaneResult R) → Status
  status_of_lanes lanes = if list_any (λ lane. gave_up lane.end) lanes then OutOfMemory else Done

  -- where memory was wanted, what was taken is less than the uploads
  abbrev pub status_by : Stop → List (LaneResult R) → Status
  status_by stops.Memory lanes = OutOfMemory
  status_by other lanes = status_of_lanes lanes

  abbrev pub status_of : Gathered R → Status
  status_of gathered = status_by gathered.stop (values gathered.clients)

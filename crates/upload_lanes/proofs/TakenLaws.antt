-- From the lanes of a round to what was taken of its uploads.
use Rattle.std.proofs.Common.{◌≡◌, ℕ, List, [], ◌∷◌, map, Option, refl}
use Rattle.std.specs.List.{AllZip}
use Rattle.upload_reader.specs.Upload.{UploadState}
use Rattle.lanes_in_turn.specs.Lane.{IsTaken}
use Rattle.lanes_in_turn.specs.Round.{log_before, resumed_upload}
use Rattle.lanes_in_turn.specs.Taking.{begun_lane, TakesLane}
use Rattle.lanes_in_turn.specs.declared.gathered.LaneResult.{LaneResult}

module _ {R : Type 0} (known : List ℕ → Option (LaneResult R)) (quota : ℕ) where
  -- that upload's lane, and nothing of another's went into it
  pub record IsLaneOf (upload : UploadState R) (lane : List ℕ × LaneResult R) : Type 0 where
    pub client : lane.0 ≡ upload.client
    pub is_taken : IsTaken (log_before quota upload (known upload.client)) (resumed_upload upload (known upload.client)) lane.1

  pub lanes_of : (more : ℕ) (uploads : List (UploadState R)) (lanes : List (List ℕ × LaneResult R)) → AllZip (TakesLane more) (map (begun_lane known quota) uploads) lanes
      → AllZip IsLaneOf uploads lanes
  lanes_of more [] [] all = tt
  lanes_of more [] (lane ∷ lanes) all = absurd all
  lanes_of more (upload ∷ uploads) [] all = absurd all
  lanes_of more (upload ∷ uploads) (lane ∷ lanes) all = (
    record { client = all.0.client; is_taken = all.0.is_taken (resumed_upload upload (known upload.client)) refl },
    lanes_of more uploads lanes all.1,
  )

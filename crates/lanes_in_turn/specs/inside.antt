-- Steps of lanes in turn.
use Rattle.std.specs.Prelude.{◌≡◌, ℕ, map, ◌+◌, ◌≤◌, List, ◌++◌, length, ◌==◌, if◌then◌else◌, slice_get, Option, Some}
use Rattle.std.specs.List.{AllByRecursion}
use Rattle.upload_reader.specs.Stream.{messages_of}
use Rattle.upload_reader.specs.Upload.{UploadState, IsUntouched}
use Rattle.lanes_in_turn.specs.Round.{AreTakenInTurn, IsFollowed}
use Rattle.lanes_in_turn.specs.Taking.{begun_lane}
use Rattle.lanes_in_turn.specs.declared.gathered.LaneResult.{LaneResult}
use Rattle.lanes_in_turn.specs.declared.gathered.Stop.{Stop}

-- that lane was asked once more
abbrev pub one_more : ℕ → (ℕ → ℕ) → ℕ → ℕ
one_more k asked j = if k == j then asked j + 1 else asked j

-- one for that lane, none for another
abbrev pub only : ℕ → ℕ → ℕ
only k j = if k == j then 1 else 0

module _ {R : Type 0} where
  -- no more were taken than its upload gave
  abbrev pub HasFewTaken : LaneResult R → Type 0
  HasFewTaken lane = (now : UploadState R) → lane.upload ≡ Some now → lane.taken ≤ length now.given

  abbrev pub HaveFewTaken : List (List ℕ × LaneResult R) → Type 0
  HaveFewTaken lanes = (k : ℕ) (lane : List ℕ × LaneResult R) → slice_get lanes k ≡ Some lane → HasFewTaken lane.1

  -- its log has the session of the messages that its upload gave, which begins behind the same ones
  abbrev pub IsTogether : LaneResult R → Type 0
  IsTogether lane = (now : UploadState R) → lane.upload ≡ Some now
      → lane.log.session ≡ now.lane.earlier ++ messages_of now.given

  abbrev pub AreTogether : List (List ℕ × LaneResult R) → Type 0
  AreTogether lanes = (k : ℕ) (lane : List ℕ × LaneResult R) → slice_get lanes k ≡ Some lane → IsTogether lane.1

  -- whatever lanes these are, each was then asked so often, and gave so many messages more than were recorded
  abbrev pub AskLanes : ((ℕ → ℕ) → ℕ → ℕ) → (ℕ → ℕ) → List (List ℕ × LaneResult R) → List (List ℕ × LaneResult R)
      → Type 0
  AskLanes further ahead old new =
      (known : List ℕ → Option (LaneResult R)) (quota : ℕ) (uploads : List (UploadState R)) (asked : ℕ → ℕ)
      → AreTakenInTurn known quota uploads asked (λ _. 0) old
      → AreTakenInTurn known quota uploads (further asked) ahead new

  -- what is taken in turn of lanes of which nothing was taken, whatever is known of their clients
  abbrev pub FollowsSchedule : List ℕ → List (List ℕ × LaneResult R) → List (List ℕ × LaneResult R) → Stop → Type 0
  FollowsSchedule schedule old new stop =
      (known : List ℕ → Option (LaneResult R)) (quota : ℕ) (uploads : List (UploadState R))
      → AllByRecursion IsUntouched uploads → old ≡ map (begun_lane known quota) uploads
      → IsFollowed known quota uploads schedule new stop

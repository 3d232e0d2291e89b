-- What is gathered of lanes by several recorders, however their threads run: this project's own rule.
use Rattle.std.specs.Prelude.{◌≡◌, ℕ, ◌+◌, ◌==◌, List, length, map, fold, Bool, nat_lt, if◌then◌else◌, slice_get, Some}
use Rattle.std.specs.List.{AllZip}
use Rattle.round_robin.specs.Dealt.{every}
use Rattle.upload_reader.specs.Upload.{UploadState}
use Rattle.lanes_in_turn.specs.Round.{IsGatheredBy, IsFirst}
use Rattle.lanes_in_turn.specs.Taking.{refused_by, begun_lane, Stops, TakesLane}
use Rattle.lanes_in_turn.specs.declared.gathered.Gathered.{Gathered}
use Rattle.lanes_in_turn.specs.declared.gathered.LaneResult.{LaneResult}
use Rattle.lanes_in_turn.specs.declared.gathered.Stop.{Stop}
use Rattle.lanes_in_turn.specs.declared.gathered.Stop.TheVariants as kind

-- ---- recorders

abbrev pub max_recorders : ℕ
max_recorders = 4

-- how many recorders so many lanes have
abbrev pub recorders_of : ℕ → ℕ
recorders_of lanes = if nat_lt lanes max_recorders then lanes else max_recorders

-- how many messages an upload gives at the most beyond those that were taken of its lane: as many as the room says that
-- it was given, and one more; a lane alone none
abbrev pub read_ahead : ℕ → ℕ → ℕ
read_ahead room lanes = if lanes == 1 then 0 else room + 1

-- why the taking stopped by these two: the first of memory, the question, the lanes' ends
abbrev pub both_stops : Stop → Stop → Stop
both_stops kind.Memory other = kind.Memory
both_stops kind.None other = other
both_stops kind.Asked kind.Memory = kind.Memory
both_stops kind.Asked other = kind.Asked

abbrev pub stop_of : List Stop → Stop
stop_of stops = fold both_stops kind.None stops

module _ {R : Type 0} where
  -- ---- lanes

  -- What was taken of lanes of which nothing was taken, lane k by recorder k modulo their number. Each upload gave so
  -- many messages more at the most, and one where a message could not be recorded.
  pub record AreTaken (allows : ℕ → Bool → Type 0) (more : ℕ) (fresh lanes : List (List ℕ × LaneResult R))
      (stop : Stop) : Type 0 where
    pub lanes_are : AllZip (TakesLane (more + refused_by stop)) fresh lanes
    pub stops : List Stop
    pub count : length stops ≡ recorders_of (length fresh)
    pub each : (recorder : ℕ) (one : Stop) → slice_get stops recorder ≡ Some one
        → Stops allows (every (length stops) recorder lanes) one
    pub stop_is : stop ≡ stop_of stops

  -- ---- a round

  -- by recorders that ask so, of uploads with so much room in each queue
  abbrev pub Gathers : (ℕ → Bool → Type 0) → ℕ → Gathered R → List (UploadState R) → ℕ → Gathered R → Type 0
  Gathers allows room earlier uploads quota gathered =
      IsGatheredBy (λ known. AreTaken allows (read_ahead room (length uploads)) (map (begun_lane known quota) uploads))
      earlier uploads gathered

  abbrev pub GathersFirst : (ℕ → Bool → Type 0) → ℕ → List (UploadState R) → ℕ → Gathered R → Type 0
  GathersFirst allows room uploads quota gathered =
      IsFirst (λ earlier. Gathers allows room earlier uploads quota gathered)

-- What is taken of a lane from its beginning, and when the taking of lanes stops: this project's own rule.
use Rattle.std.specs.Prelude.{◌≡◌, ℕ, ◌+◌, ◌≤◌, ◌<◌, List, [], ◌∷◌, length, map, bytes_eq, Bool, true, false, if◌then◌else◌, is_some, slice_get, Option, Some, None, IsSome, ◌⊎◌}
use Rattle.std.specs.List.{sum_by}
use Rattle.indexmap.specs.IndexMap.{get, spare, IsUnchanged}
use Rattle.upload_reader.specs.Upload.{UploadState, IsUntouched}
use Rattle.client_log.specs.Client.{OfClient}
use Rattle.lanes_in_turn.specs.Lane.{IsTaken}
use Rattle.lanes_in_turn.specs.Round.{IsRound, new_log, log_before, resumed_upload, have_ended}
use Rattle.lanes_in_turn.specs.declared.gathered.LaneResult.{LaneResult}
use Rattle.lanes_in_turn.specs.declared.gathered.Gathered.{Gathered}
use Rattle.lanes_in_turn.specs.declared.gathered.Stop.{Stop}
use Rattle.lanes_in_turn.specs.declared.rounds.BegunRound.{BegunRound}
use Rattle.lanes_in_turn.specs.declared.gathered.Stop.TheVariants as kind

-- one, where a message could not be recorded
abbrev pub refused_by : Stop → ℕ
refused_by kind.Memory = 1
refused_by other = 0

abbrev pub is_ended : Stop → Bool
is_ended kind.None = true
is_ended other = false

-- a question that no number of items answers by true
abbrev pub never : ℕ → Bool → Type 0
never items answer = answer ≡ false

module _ {R : Type 0} where
  -- ---- a lane

  -- a lane of which nothing was taken
  abbrev pub new_lane : OfClient → UploadState R → LaneResult R
  new_lane log upload = record { log = log; taken = 0; end = None; upload = Some upload }

  -- that of an upload, where this is known of clients
  abbrev pub begun_lane : (List ℕ → Option (LaneResult R)) → ℕ → UploadState R → List ℕ × LaneResult R
  begun_lane known quota upload = let lane = known upload.client in
      (upload.client, new_lane (log_before quota upload lane) (resumed_upload upload lane))

  -- nothing was taken of it
  pub record IsBegun (lane : LaneResult R) : Type 0 where
    pub taken : lane.taken ≡ 0
    pub end : lane.end ≡ None

  -- a lane with its upload, behind the session of its log, of which nothing was taken
  pub record IsFreshLane (lane : List ℕ × LaneResult R) : Type 0 where
    pub upload : UploadState R
    pub upload_is : lane.1.upload ≡ Some upload
    pub untouched : IsUntouched upload
    pub behind : upload.lane.earlier ≡ lane.1.log.session
    pub begun : IsBegun lane.1

  -- its upload gave at most so many messages more than were taken
  abbrev pub GaveFewMore : ℕ → LaneResult R → Type 0
  GaveFewMore more lane = (now : UploadState R) → lane.upload ≡ Some now → length now.given ≤ lane.taken + more

  -- what was taken of such a lane, whose upload gave so many messages more at the most
  pub record TakesLane (more : ℕ) (fresh lane : List ℕ × LaneResult R) : Type 0 where
    pub client : lane.0 ≡ fresh.0
    pub ahead : GaveFewMore more lane.1
    pub is_taken : (begun : UploadState R) → fresh.1.upload ≡ Some begun → IsTaken fresh.1.log begun lane.1

  -- A round of these uploads behind what was gathered: nothing was taken of its lanes, and there is room for them.
  pub record IsBegunRound (earlier : Gathered R) (uploads : List (UploadState R)) (quota : ℕ)
      (round : BegunRound R) : Type 0 where
    pub is_round : IsRound uploads
    pub clients : IsUnchanged earlier.clients round.earlier.clients
    pub stop : round.earlier.stop ≡ earlier.stop
    pub lanes_are : round.lanes.items ≡ map (begun_lane (get bytes_eq earlier.clients) quota) uploads
    pub room : length round.lanes.items ≤ spare round.earlier.clients

  -- ---- when it stops

  -- what was taken of a lane: its messages, and its end
  abbrev pub items_in : LaneResult R → ℕ
  items_in lane = lane.taken + (if is_some lane.end then 1 else 0)

  abbrev pub items_taken : List (List ℕ × LaneResult R) → Stop → ℕ
  items_taken lanes stop = sum_by (λ lane. items_in lane.1) lanes + refused_by stop

  -- more was given than was recorded
  pub record GaveMore (lane : LaneResult R) : Type 0 where
    pub upload : UploadState R
    pub upload_is : lane.upload ≡ Some upload
    pub more : lane.taken < length upload.given

  -- A recorder of these lanes stopped so, by a question that allows these answers at these numbers of items.
  pub record Stops (allows : ℕ → Bool → Type 0) (lanes : List (List ℕ × LaneResult R)) (stop : Stop) : Type 0 where
    pub lesser : (n : ℕ) → n < items_taken lanes stop → allows n false
    pub asked : stop ≡ kind.Asked → allows (items_taken lanes stop) true
    pub ended : have_ended lanes ≡ is_ended stop
    pub refused : stop ≡ kind.Memory
        → (k : ℕ) × (lane : List ℕ × LaneResult R) × (slice_get lanes k ≡ Some lane) × GaveMore lane.1

  -- ---- one upload, taken to its end

  -- In a first round, of its client alone. The lane has its end, or a message couldn't be recorded.
  pub record IsGatheredAlone (upload : UploadState R) (quota : ℕ) (gathered : Gathered R) : Type 0 where
    pub lane : LaneResult R
    pub entries_are : gathered.clients.entries ≡ (upload.client, lane) ∷ []
    pub is_taken : IsTaken (new_log quota upload.client) (resumed_upload upload None) lane
    pub ahead : GaveFewMore (refused_by gathered.stop) lane
    pub ends : ((gathered.stop ≡ kind.None) × IsSome lane.end) ⊎ ((gathered.stop ≡ kind.Memory) × (lane.end ≡ None))

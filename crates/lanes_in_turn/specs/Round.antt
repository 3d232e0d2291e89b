-- What a round of lanes gives, taken in turn as a schedule says: this project's own rule.
use Rattle.std.specs.Prelude.{◌≡◌, ◌≢◌, ℕ, ◌+◌, ◌≤◌, ◌<◌, List, [], ◌∷◌, length, map, take, Bool, true, false, ◌||◌, ◌==◌, if◌then◌else◌, bytes_eq, is_some, count_by, slice_get, Option, Some, None, IsSomeAnd}
use Rattle.std.specs.List.{list_all, list_any}
use Rattle.std.specs.Option.{option_map_or}
use Rattle.indexmap.specs.IndexMap.{get, insert_all, IsUnchanged}
use Rattle.upload_reader.specs.Upload.{UploadState}
use Rattle.upload_reader.specs.declared.ending.Ending.{Ending}
use Rattle.client_log.specs.Client.{OfClient}
use Rattle.client_log.specs.Log.{empty_log}
use Rattle.lanes_in_turn.specs.Lane.{IsTaken}
use Rattle.lanes_in_turn.specs.declared.fault.GatherFault.{GatherFault}
use Rattle.lanes_in_turn.specs.declared.fault.GatherFault.TheVariants as fault
use Rattle.lanes_in_turn.specs.declared.fault.RefusedRound.{RefusedRound}
use Rattle.lanes_in_turn.specs.declared.gathered.Gathered.{Gathered}
use Rattle.lanes_in_turn.specs.declared.gathered.LaneResult.{LaneResult}
use Rattle.lanes_in_turn.specs.declared.gathered.Stop.{Stop}
use Rattle.lanes_in_turn.specs.declared.gathered.Stop.TheVariants as stop

-- ---- the lanes of a round

-- how many lanes a round has at the most; their clients are compared each with each
abbrev pub max_round_lanes : ℕ
max_round_lanes = 16

-- so many lanes may a round have; any other number is G1
pub record AreRoundLanes (lanes : ℕ) : Type 0 where
  pub some : 1 ≤ lanes
  pub few : lanes ≤ max_round_lanes

abbrev pub has_twice : List (List ℕ) → Bool
has_twice [] = false
has_twice (client ∷ clients) = list_any (bytes_eq client) clients || has_twice clients

abbrev pub clients_of : {R : Type 0} → List (UploadState R) → List (List ℕ)
clients_of uploads = map (λ upload. upload.client) uploads

-- there are as many lanes as a round may have, each of a client of its own
pub record IsRound {R : Type 0} (uploads : List (UploadState R)) : Type 0 where
  pub lanes : AreRoundLanes (length uploads)
  pub clients : has_twice (clients_of uploads) ≡ false

-- why there is no round, the first in this order: G1, G2, G3
abbrev pub IsNoRound : {R : Type 0} → List (UploadState R) → GatherFault → Type 0
IsNoRound uploads fault.BadLanes = AreRoundLanes (length uploads) → ⊥
IsNoRound uploads fault.DuplicateClient = AreRoundLanes (length uploads) × (has_twice (clients_of uploads) ≡ true)
IsNoRound uploads fault.NoMemory = IsRound uploads

-- ---- what a lane begins behind

abbrev pub new_log : ℕ → List ℕ → OfClient
new_log quota client = record { client = client; quota = quota; log = empty_log; session = [] }

module _ {R : Type 0} where
  -- the log before, of a client of which this is known
  abbrev pub log_before : ℕ → UploadState R → Option (LaneResult R) → OfClient
  log_before quota upload known = option_map_or (λ lane. lane.log) known (new_log quota upload.client)

  -- its upload, behind the session of that log
  abbrev pub behind_log : OfClient → UploadState R → UploadState R
  behind_log log upload = record upload { lane = record upload.lane { earlier = log.session } }

  -- the same where this is known of its client: a new one begins behind a new session
  abbrev pub resumed_upload : UploadState R → Option (LaneResult R) → UploadState R
  resumed_upload upload known =
      (record upload { lane = record upload.lane { earlier = option_map_or (λ lane. lane.log.session) known [] } })

  -- a client that has no lane in this round
  abbrev pub without_lane : LaneResult R → LaneResult R
  without_lane lane = record { log = lane.log; taken = 0; end = None; upload = None }

-- ---- what is taken of them

abbrev pub entries_of : List ℕ → ℕ → ℕ
entries_of schedule lane = count_by (λ entry. entry == lane) schedule

-- Of a lane that was asked so often: without an end, so many messages were taken; with one, it was asked at least
-- once more.
abbrev pub IsAsked : ℕ → ℕ → Option Ending → Type 0
IsAsked asked taken None = taken ≡ asked
IsAsked asked taken (Some end) = taken < asked

-- What was taken of a lane that was asked so often, and so many messages more were given than were recorded.
pub record IsTakenInTurn {R : Type 0} (before : OfClient) (begun : UploadState R) (asked ahead : ℕ)
    (lane : LaneResult R) : Type 0 where
  pub is_taken : IsTaken before begun lane
  pub asked_is : IsAsked asked lane.taken lane.end
  pub ahead_is : length is_taken.now.given ≡ lane.taken + ahead

module _ {R : Type 0} (known : List ℕ → Option (LaneResult R)) (quota : ℕ) (uploads : List (UploadState R))
    (asked ahead : ℕ → ℕ) where
  -- the lane of that number is that upload's, and nothing of another's went into it
  pub record IsLaneInTurn (k : ℕ) (lane : List ℕ × LaneResult R) : Type 0 where
    pub upload : UploadState R
    pub upload_at : slice_get uploads k ≡ Some upload
    pub client : lane.0 ≡ upload.client
    pub in_turn : IsTakenInTurn (log_before quota upload (known upload.client))
        (resumed_upload upload (known upload.client)) (asked k) (ahead k) lane.1

  pub record AreTakenInTurn (lanes : List (List ℕ × LaneResult R)) : Type 0 where
    pub count : length lanes ≡ length uploads
    pub each : (k : ℕ) (lane : List ℕ × LaneResult R) → slice_get lanes k ≡ Some lane → IsLaneInTurn k lane

abbrev pub have_ended : {R : Type 0} → List (List ℕ × LaneResult R) → Bool
have_ended lanes = list_all (λ lane. is_some lane.1.end) lanes

-- where memory was refused, the lane that was asked then gave one message more than were recorded
abbrev pub ahead_of : List ℕ → ℕ → Stop → ℕ → ℕ
ahead_of schedule followed stop.Memory lane =
    if option_map_or (λ entry. entry == lane) (slice_get schedule followed) false then 1 else 0
ahead_of schedule followed other lane = 0

-- So many entries of the schedule were followed: all, unless memory was refused at the next one, which is for a lane.
abbrev pub IsStop : {R : Type 0} → List ℕ → ℕ → List (List ℕ × LaneResult R) → Stop → Type 0
IsStop schedule followed lanes stop.None = (followed ≡ length schedule) × (have_ended lanes ≡ true)
IsStop schedule followed lanes stop.Asked = (followed ≡ length schedule) × (have_ended lanes ≡ false)
IsStop schedule followed lanes stop.Memory = IsSomeAnd (slice_get schedule followed) (λ entry. entry < length lanes)

-- ---- a round

module _ {R : Type 0} where
  pub record IsFollowed (known : List ℕ → Option (LaneResult R)) (quota : ℕ) (uploads : List (UploadState R))
      (schedule : List ℕ) (lanes : List (List ℕ × LaneResult R)) (stop : Stop) : Type 0 where
    pub followed : ℕ
    pub lanes_are : AreTakenInTurn known quota uploads (entries_of (take followed schedule))
        (ahead_of schedule followed stop) lanes
    pub stop_is : IsStop schedule followed lanes stop

  abbrev pub without_lanes : List (List ℕ × LaneResult R) → List (List ℕ × LaneResult R)
  without_lanes entries = map (λ entry. (entry.0, without_lane entry.1)) entries

  -- The clients of the rounds before stand first, in their order, and then the new ones in that of their lanes. Each
  -- that has a lane has what was taken of it, as that says of lanes behind what is known and of why it stopped.
  pub record IsGatheredBy (Takes : (List ℕ → Option (LaneResult R)) → List (List ℕ × LaneResult R) → Stop → Type 0)
      (earlier : Gathered R) (uploads : List (UploadState R)) (gathered : Gathered R) : Type 0 where
    pub is_round : IsRound uploads
    pub lanes : List (List ℕ × LaneResult R)
    pub taken : Takes (get bytes_eq earlier.clients) lanes gathered.stop
    pub clients_are : gathered.clients.entries ≡ insert_all bytes_eq (without_lanes earlier.clients.entries) lanes

  -- in turn, as the schedule says
  abbrev pub GathersInTurn : Gathered R → List (UploadState R) → ℕ → List ℕ → Gathered R → Type 0
  GathersInTurn earlier uploads quota schedule gathered =
      IsGatheredBy (λ known. IsFollowed known quota uploads schedule) earlier uploads gathered

  -- the first round: no client came before
  abbrev pub IsFirst : (Gathered R → Type 0) → Type 0
  IsFirst Gathering = (earlier : Gathered R) × (earlier.clients.entries ≡ []) × Gathering earlier

-- The round is refused for that. What was gathered before comes back, and the uploads too where memory isn't why.
pub record RefusesRound {R : Type 0} (earlier : Gathered R) (uploads : List (UploadState R))
    (again : RefusedRound R) : Type 0 where
  pub why : IsNoRound uploads again.fault
  pub clients : IsUnchanged earlier.clients again.earlier.clients
  pub stop : again.earlier.stop ≡ earlier.stop
  pub unread : again.fault ≢ fault.NoMemory → again.uploads.items ≡ uploads

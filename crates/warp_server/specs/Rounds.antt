-- What several rounds of uploads leave, one after another: this project's own rule.
use Rattle.std.specs.Prelude.{◌≡◌, ℕ, List, [], ◌∷◌, ◌++◌, map, take, filter, bytes_eq, None}
use Rattle.std.specs.List.{flat_map}
use Rattle.upload_reader.specs.Stream.{Costed}
use Rattle.upload_reader.specs.Upload.{UploadState}
use Rattle.client_log.specs.Client.{OfClient}
use Rattle.client_log.specs.Log.{kept_log}
use Rattle.lanes_in_turn.specs.Lane.{IsTaken}
use Rattle.lanes_in_turn.specs.Round.{new_log, behind_log}
use Rattle.upload_lanes.specs.Threads.{Gathers}
use Rattle.lanes_in_turn.specs.declared.gathered.Gathered.{Gathered}
use Rattle.lanes_in_turn.specs.declared.gathered.LaneResult.{LaneResult}
use Rattle.lanes_in_turn.specs.declared.gathered.Stop.TheVariants as stops
use Rattle.lanes_in_turn.specs.Taking.{never}
use Rattle.warp_run.specs.Shortage.{status_of}
use Rattle.warp_run.specs.declared.status.Status.TheVariants.{Done}

-- how many messages of an upload wait in its queue at the most
abbrev pub server_room : ℕ
server_room = 1024

module _ {R : Type 0} where
  -- ---- round by round

  -- a lane whose upload was let go, and with it its reader
  abbrev pub without_reader : LaneResult R → LaneResult R
  without_reader lane = record { log = lane.log; taken = lane.taken; end = lane.end; upload = None }

  -- one round more, behind rounds in which no memory was refused, and then its uploads were let go
  pub record GathersRound (quota : ℕ) (earlier : Gathered R) (uploads : List (UploadState R))
      (gathered : Gathered R) : Type 0 where
    pub whole : status_of earlier ≡ Done
    pub round : Gathered R
    pub gathers : Gathers never server_room earlier uploads quota round
    pub clients_are : gathered.clients.entries ≡ map (λ entry. (entry.0, without_reader entry.1)) round.clients.entries
    pub stop_is : gathered.stop ≡ round.stop

  -- these rounds, the last of them first; before the first there was no client, and nothing had been stopped
  abbrev pub GathersRounds : ℕ → List (List (UploadState R)) → Gathered R → Type 0
  GathersRounds quota [] gathered = (gathered.clients.entries ≡ []) × (gathered.stop ≡ stops.None)
  GathersRounds quota (uploads ∷ before) gathered =
      (earlier : Gathered R) × GathersRounds quota before earlier × GathersRound quota earlier uploads gathered

  -- ---- client by client

  -- The client's log after these uploads of its, the last of them first, and the messages that were recorded: of each
  -- upload the first ones of its stream, behind the log that those before it left, each once and in order. How many of
  -- them, and which end was taken, is said round by round.
  abbrev pub IsLogAfter : ℕ → List ℕ → List (UploadState R) → List Costed → OfClient → Type 0
  IsLogAfter quota client [] messages log = (messages ≡ []) × (log ≡ new_log quota client)
  IsLogAfter quota client (upload ∷ before) messages log =
      (said : List Costed) × (earlier : OfClient) × IsLogAfter quota client before said earlier
      × (lane : LaneResult R) × (taken : IsTaken earlier (behind_log earlier upload) lane)
      × (messages ≡ said ++ take lane.taken taken.now.given) × (log ≡ lane.log)

  -- the client's uploads in these rounds, of which none has two of it
  abbrev pub uploads_of : List ℕ → List (List (UploadState R)) → List (UploadState R)
  uploads_of client rounds = flat_map (filter (λ upload. bytes_eq client upload.client)) rounds

  -- that client has the log of its uploads: what its quota keeps of the messages that were recorded of them
  pub record HasLog (quota : ℕ) (rounds : List (List (UploadState R))) (entry : List ℕ × LaneResult R) : Type 0 where
    pub messages : List Costed
    pub is_log : IsLogAfter quota entry.0 (uploads_of entry.0 rounds) messages entry.1.log
    pub kept_are : entry.1.log.log ≡ kept_log quota messages

-- What is done with a name, with a round, and what is known behind so many names.
use Rattle.std.specs.Prelude.{◌≡◌, ℕ, ◌<◌, ◌≤◌, List, [], ◌∷◌, ◌++◌, length, map, take, slice_get, flat_map, Bool, true, false, bytes_eq, unwrap_or, Option, Some, None, Result, Ok, Err, ◌⊎◌}
use Rattle.std.specs.List.{AllByRecursion, AllZip, list_any}
use Rattle.std.specs.Map.{keys_of}
use Rattle.std.specs.Option.{option_map_or}
use Rattle.std.specs.declared.io.Error.{Error}
use Rattle.indexmap.specs.IndexMap.{IndexMap, get, insert_all}
use Rattle.byte_streams.specs.Answers.{Answer}
use Rattle.upload_reader.specs.Upload.{UploadState}
use Rattle.upload_reader.specs.declared.ending.Ending.{Ending}
use Rattle.upload_reader.specs.declared.hello_fault.HelloFault.{HelloFault}
use Rattle.client_log.specs.Client.{OfClient}
use Rattle.lanes_in_turn.specs.declared.gathered.Gathered.{Gathered}
use Rattle.lanes_in_turn.specs.declared.gathered.LaneResult.{LaneResult}
use Rattle.byte_streams.specs.Writing.{CallWrites}
use Rattle.site_file.specs.declared.file.SiteFile.{SiteFile}
use Rattle.warp_run.specs.Report.{WritesReport}
use Rattle.warp_run.specs.Shortage.{status_of}
use Rattle.warp_run.specs.declared.reporting.fault.ReportFault.{ReportFault}
use Rattle.warp_run.specs.declared.status.Status.{Status}
use Rattle.warp_run.specs.declared.status.Status.TheVariants.{Done, BadSite, OutOfMemory, InputOutput}
use Rattle.site_file.specs.declared.file.NoSiteFile.{NoSiteFile}
use Rattle.site_file.specs.declared.file.NoSiteFile.TheVariants as none
use Rattle.replay_folder.specs.declared.replaying.ReplayEnd.{ReplayEnd}
use Rattle.warp_server.specs.Rounds.{server_room, without_reader}
use Rattle.warp_server.specs.program.Callers.{IsGreeted, IsReadSo, RoundIsRead, uploads_in}
use Rattle.upload_lanes.specs.Threads.{AreTaken, read_ahead}
use Rattle.lanes_in_turn.specs.Round.{max_round_lanes, IsRound, has_twice, clients_of, without_lanes}
use Rattle.lanes_in_turn.specs.Taking.{begun_lane, never}
use Rattle.replay_folder.specs.Ends.{TakenUpload, FileEnd, IsEndOf, RefusesHello, told_end, taken_upload, is_unread}
use Rattle.replay_folder.specs.Taking.{TakesRounds, TakesFiles}
use Rattle.replay_folder.specs.Replays.{HasReplayed}
use Rattle.replay_folder.specs.declared.ends.UploadEnd.{UploadEnd}
use Rattle.replay_folder.specs.declared.ends.UploadEnd.TheVariants as upload_end
use Rattle.replay_folder.specs.declared.names.Named.{Named}
use Rattle.replay_folder.specs.declared.open_round.RoundName.{RoundName}
use Rattle.replay_folder.specs.declared.open_round.RoundName.TheVariants.{Told, Waits}
use Rattle.replay_folder.specs.declared.open_round.OpenRound.{OpenRound}
use Rattle.replay_folder.specs.declared.open_round.TakenFiles.{TakenFiles}
use Rattle.replay_folder.specs.declared.names.Named.TheVariants.{File}
use Rattle.replay_folder.specs.declared.taking.TakenUpTo.{TakenUpTo}
pub mod AtOnce
pub mod Stretch

-- what the lane of the client tells of its upload
abbrev pub told_by_lane : {R : Type 0} → Gathered R → List ℕ → UploadEnd
told_by_lane gathered client =
    option_map_or (λ lane. upload_end.Taken client lane.taken lane.end) (get bytes_eq gathered.clients client)
    upload_end.Unread

-- ---- a round that is open

-- whether memory was refused, where the taking of uploads ended so
abbrev pub is_short : Status → Bool
is_short Done = false
is_short other = true

module _ {R : Type 0} where
  -- a name in it, by the upload that it gave, or by what became of it
  abbrev pub held_as : Result (UploadState R) UploadEnd → RoundName
  held_as (Ok upload) = Waits upload.client
  held_as (Err end) = Told end

  abbrev pub held_upload : Result (UploadState R) UploadEnd → List (UploadState R)
  held_upload (Ok upload) = upload ∷ []
  held_upload (Err end) = []

  -- what became of it, once the round was taken
  abbrev pub held_end : Gathered R → RoundName → UploadEnd
  held_end gathered (Told end) = end
  held_end gathered (Waits client) = told_by_lane gathered client

  -- so it has one name more
  pub record Holds (old : OpenRound R) (said : Result (UploadState R) UploadEnd) (new : OpenRound R) : Type 0 where
    pub taken : new.taken ≡ old.taken
    pub held : new.held.items ≡ old.held.items ++ held_as said ∷ []
    pub uploads : new.uploads.items ≡ old.uploads.items ++ held_upload said

  -- one name more is told, of which nothing was read
  pub record LeavesUnread (old new : OpenRound R) : Type 0 where
    pub gathered : new.taken.gathered ≡ old.taken.gathered
    pub status : new.taken.status ≡ old.taken.status
    pub ends : new.taken.ends.items ≡ old.taken.ends.items ++ upload_end.Unread ∷ []
    pub held : new.held.items ≡ old.held.items
    pub uploads : new.uploads.items ≡ old.uploads.items

  -- one that can't be opened was tried before the first upload of its round was open
  abbrev pub AreTriedAlone : List (Result (UploadState R) UploadEnd) → Type 0
  AreTriedAlone said = (k : ℕ) → slice_get said k ≡ Some (Err upload_end.Unopened)
      → flat_map held_upload (take k said) ≡ []

  -- its names are those of its uploads, and those of which it is known what became of them
  pub record AreHeld (round : OpenRound R) : Type 0 where
    pub said : List (Result (UploadState R) UploadEnd)
    pub held : round.held.items ≡ map held_as said
    pub uploads : round.uploads.items ≡ flat_map held_upload said

  -- a round may have these: each begins with its hello, and is of another client
  pub record AreReady (uploads : List (UploadState R)) : Type 0 where
    pub greeted : AllByRecursion IsGreeted uploads
    pub few : length uploads ≤ max_round_lanes
    pub apart : has_twice (clients_of uploads) ≡ false

  -- ---- a round costs what its own uploads cost

  -- It has the logs of what was gathered, and nothing of the last round's lanes.
  pub record KeepsLogs (kept gathered : Gathered R) : Type 0 where
    pub clients : kept.clients.entries ≡ without_lanes gathered.clients.entries
    pub stop : kept.stop ≡ gathered.stop

  -- a lane of that log, of which nothing was taken in the last round
  abbrev pub lane_of_log : OfClient → LaneResult R
  lane_of_log log = record { log = log; taken = 0; end = None; upload = None }

  abbrev pub HasClient : List (List ℕ × LaneResult R) → List ℕ → Type 0
  HasClient entries client = list_any (bytes_eq client) (keys_of entries) ≡ true

  -- with whatever is put for each of these clients it comes to the same
  abbrev pub IsSameBehind : List (List ℕ) → (old new : List (List ℕ × LaneResult R)) → Type 0
  IsSameBehind clients old new = (entries : List (List ℕ × LaneResult R))
      → AllByRecursion (HasClient entries) clients → insert_all bytes_eq new entries ≡ insert_all bytes_eq old entries

  module _ (was_read : R → R → List Answer → Type 0) (quota : ℕ) where
    -- a round of these uploads, behind what is known of their own clients alone, and then they were let go
    pub record IsOwnRound (known : List ℕ → Option (LaneResult R)) (uploads : List (UploadState R))
        (own : Gathered R) : Type 0 where
      pub is_round : IsRound uploads
      pub lanes : List (List ℕ × LaneResult R)
      pub taken : AreTaken never (read_ahead server_room (length uploads)) (map (begun_lane known quota) uploads) lanes
          own.stop
      pub read : AllByRecursion (IsReadSo was_read) (uploads_in lanes)
      pub clients_are : own.clients.entries ≡ map (λ entry. (entry.0, without_reader entry.1)) lanes

    -- a round of them, or of none nothing
    abbrev pub TakesUploads : Gathered R → List (UploadState R) → Gathered R → Type 0
    TakesUploads earlier uploads gathered =
        ((uploads ≡ []) × (gathered ≡ earlier)) ⊎ RoundIsRead was_read quota earlier uploads gathered

    -- behind what was gathered it was taken, and its names are told
    pub record IsClosed (earlier : Gathered R) (round : OpenRound R) (taken : TakenFiles R) : Type 0 where
      pub gathered : Gathered R
      pub keeps : KeepsLogs taken.gathered gathered
      pub status : taken.status ≡ status_of gathered
      pub takes : TakesUploads earlier round.uploads.items gathered
      pub told : taken.ends.items ≡ round.taken.ends.items ++ map (held_end gathered) round.held.items

    abbrev pub Closes : OpenRound R → TakenFiles R → Type 0
    Closes round taken = (earlier : Gathered R) → KeepsLogs round.taken.gathered earlier
        → round.taken.status ≡ status_of earlier → IsClosed earlier round taken

    -- it is as it was, or was taken before
    abbrev pub MakesRoom : OpenRound R → OpenRound R → Type 0
    MakesRoom old new =
        (new ≡ old) ⊎ (Closes old new.taken × (new.held.items ≡ []) × (new.uploads.items ≡ []))

-- ---- one name after another

module _ {R : Type 0} (was_read : R → R → List Answer → Type 0) where
  -- what the source begins with: the hello of an upload, or none
  abbrev pub GreetsSource : R → Result (UploadState R) UploadEnd → Type 0
  GreetsSource first (Ok upload) = (upload.lines.first ≡ first) × IsGreeted upload
  GreetsSource first (Err end) =
      (fault : HelloFault) × (end ≡ upload_end.NoHello fault) × RefusesHello was_read first fault

  module _ (opened : List ℕ → Result R Error → Type 0) where
    -- the same of the file of a name
    abbrev pub GreetsNamed : Named → Result (UploadState R) UploadEnd → Type 0
    GreetsNamed named (Ok upload) =
        (name : List ℕ) × (named ≡ File name) × opened name (Ok upload.lines.first) × IsGreeted upload
    GreetsNamed named (Err end) = (file : FileEnd R) × (told_end file ≡ end) × (taken_upload file ≡ [])
        × (is_unread end ≡ false) × IsEndOf opened was_read named file

    module _ (quota : ℕ) where
      -- behind so many names
      pub record HasTakenFiles (named : List Named) (ends : List UploadEnd) (gathered : Gathered R) : Type 0 where
        pub rounds : List (List (TakenUpload R))
        pub takes : TakesRounds was_read quota rounds gathered
        pub files : TakesFiles opened was_read named ends rounds gathered

      -- the same, of which the logs are kept
      pub record HasTakenSoFar (named : List Named) (taken : TakenFiles R) : Type 0 where
        pub gathered : Gathered R
        pub keeps : KeepsLogs taken.gathered gathered
        pub status : taken.status ≡ status_of gathered
        pub has : HasTakenFiles named taken.ends.items gathered

      -- Behind so many names, of which the last ones wait for the end of their round.
      pub record IsTaking (named : List Named) (round : OpenRound R) : Type 0 where
        pub done : List Named
        pub waiting : List Named
        pub named_are : named ≡ done ++ waiting
        pub behind : HasTakenSoFar done round.taken
        pub are : AreHeld round
        pub greets : AllZip GreetsNamed waiting are.said
        pub alone : AreTriedAlone are.said
        pub ready : AreReady round.uploads.items
        pub going : (round.taken.status ≡ Done) ⊎ (waiting ≡ [])

      -- What was taken of the names before that one. The round has room for one more.
      pub record IsUpTo (named : List Named) (taken : TakenUpTo R) : Type 0 where
        pub within : taken.next ≤ length named
        pub taking : IsTaking (take taken.next named) taken.round
        pub few : length taken.round.uploads.items < max_round_lanes

-- what is kept of a client there
abbrev pub told_in : {S : Type 0} → IndexMap (List ℕ) (ℕ × Option Ending) S → List ℕ → ℕ × Option Ending
told_in last client = unwrap_or (get bytes_eq last client) (0, None)

-- how it ends where the site's file says no site
abbrev pub no_site_end : NoSiteFile → ReplayEnd
no_site_end (none.Wrong wrong) = record { status = BadSite; wrong = Some wrong }
no_site_end none.ReadFailed = record { status = InputOutput; wrong = None }
no_site_end none.NoMemory = record { status = OutOfMemory; wrong = None }

-- so a report was written of all uploads, and so it goes on from there
abbrev pub Reports : {F : Type 0} → (List ℕ → Result F Error → Type 0)
    → (List ℕ → Result (Option (List (List ℕ))) Error → Type 0) → (F → F → List Answer → Type 0) → SiteFile
    → List (List ℕ) → CallWrites → Status × Result (Unit {0}) ReportFault → Type 0
Reports opened listed was_read site words call both =
    (text : List ℕ) × HasReplayed opened listed was_read site words both.0 text × WritesReport call text both.1

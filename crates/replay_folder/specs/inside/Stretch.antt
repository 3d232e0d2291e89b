-- What threads make of the names that they draw, and what is known while that is told, round by round.
use Rattle.std.specs.Prelude.{◌≡◌, ℕ, ◌<◌, List, [], ◌∷◌, ◌++◌, length, map, slice_get, bytes_eq, false, Option, Some, None, IfSome, Result, Ok, Err, IfOk, ◌⊎◌}
use Rattle.std.specs.List.{AllByRecursion, AllZip, list_any}
use Rattle.std.specs.declared.io.Error.{Error}
use Rattle.indexmap.specs.IndexMap.{get, insert_all}
use Rattle.byte_streams.specs.Answers.{Answer}
use Rattle.upload_reader.specs.Upload.{UploadState}
use Rattle.lanes_in_turn.specs.Round.{max_round_lanes, without_lanes}
use Rattle.lanes_in_turn.specs.Taking.{begun_lane}
use Rattle.lanes_in_turn.specs.declared.gathered.Gathered.{Gathered}
use Rattle.lanes_in_turn.specs.declared.gathered.LaneResult.{LaneResult}
use Rattle.lanes_in_turn.specs.declared.gathered.Stop.TheVariants as stops
use Rattle.upload_lanes.specs.Threads.{stop_of}
use Rattle.warp_run.specs.Shortage.{status_of}
use Rattle.warp_run.specs.declared.status.Status.TheVariants.{Done}
use Rattle.warp_server.specs.Rounds.{without_reader}
use Rattle.warp_server.specs.program.Callers.{IsReadSo}
use Rattle.replay_folder.specs.inside.{AreHeld, AreReady, Closes, GreetsNamed, Holds, LeavesUnread, held_end}
use Rattle.replay_folder.specs.inside.AtOnce.{IsTakenOf}
use Rattle.replay_folder.specs.declared.at_once.TakenLane.{TakenLane}
use Rattle.replay_folder.specs.declared.drawing.DrawnName.{DrawnName}
use Rattle.replay_folder.specs.declared.drawn_files.DrawnFile.{DrawnFile}
use Rattle.replay_folder.specs.declared.drawn_files.DrawnFile.TheVariants as made
use Rattle.replay_folder.specs.declared.ends.UploadEnd.{UploadEnd}
use Rattle.replay_folder.specs.declared.ends.UploadEnd.TheVariants.{Unopened}
use Rattle.replay_folder.specs.declared.names.Named.{Named}
use Rattle.replay_folder.specs.declared.open_round.OpenRound.{OpenRound}
use Rattle.replay_folder.specs.declared.open_round.RoundName.{RoundName}
use Rattle.replay_folder.specs.declared.open_round.TakenFiles.{TakenFiles}
use Rattle.replay_folder.specs.declared.taken_round.TakenRound.{TakenRound}

module _ {R : Type 0} where
  -- the lane of a client's first upload, of which nothing was taken
  abbrev pub first_lane : ℕ → UploadState R → List ℕ × LaneResult R
  first_lane quota upload = begun_lane (λ client. None) quota upload

  -- a lane that was taken, once its source is let go
  abbrev pub lane_let_go : TakenLane R → List ℕ × LaneResult R
  lane_let_go one = (one.lane.0, without_reader one.lane.1)

  -- the file that waits, if one does
  abbrev pub waiting_file : Option (UploadState R) → List (DrawnFile R)
  waiting_file None = []
  waiting_file (Some upload) = made.Waits upload ∷ []

  -- These lanes told the names of a round, and their logs were put among those.
  pub record PutsRound (clients : List (List ℕ × LaneResult R)) (ends : List UploadEnd) (held : List RoundName)
      (own : Gathered R) (taken : TakenFiles R) : Type 0 where
    pub entries : taken.gathered.clients.entries ≡ insert_all bytes_eq clients (without_lanes own.clients.entries)
    pub stop : taken.gathered.stop ≡ own.stop
    pub status : taken.status ≡ status_of own
    pub told : taken.ends.items ≡ ends ++ map (held_end own) held

  -- a round may have that upload too
  pub record HasRoomFor (round : OpenRound R) (upload : UploadState R) : Type 0 where
    pub few : length round.uploads.items < max_round_lanes
    pub other : list_any (λ one. bytes_eq upload.client one.client) round.uploads.items ≡ false

  -- the round has one name more; or that is left unread, where memory was refused before
  abbrev pub TellsOne : OpenRound R → Result (UploadState R) UploadEnd → OpenRound R → Type 0
  TellsOne old said new = ((old.taken.status ≡ Done → ⊥) × LeavesUnread old new)
      ⊎ ((old.taken.status ≡ Done) × IfOk said (HasRoomFor old) × Holds old said new)

module _ {R : Type 0} (was_read : R → R → List Answer → Type 0) where
  -- ---- one name

  -- what was taken of that upload, the first of its client, and its source was let go, which was read so
  pub record IsTakenFirst (quota : ℕ) (upload : UploadState R) (taken : TakenLane R) : Type 0 where
    pub whole : TakenLane R
    pub takes : IsTakenOf (first_lane quota upload) whole
    pub read : IfSome whole.lane.1.upload (IsReadSo was_read)
    pub lane_is : taken.lane ≡ lane_let_go whole
    pub stop_is : taken.stop ≡ whole.stop

  -- what is made of an upload, or of what became of a name without one
  abbrev pub IsFileBy : ℕ → Result (UploadState R) UploadEnd → DrawnFile R → Type 0
  IsFileBy quota (Ok upload) (made.Taken taken) = IsTakenFirst quota upload taken
  IsFileBy quota (Ok upload) (made.Waits other) = other ≡ upload
  IsFileBy quota (Err end) (made.Told told) = told ≡ end
  IsFileBy quota said file = ⊥

  -- ---- a round whose uploads were taken

  -- Each of these uploads is the first of its client, of which nothing is known, and what was taken of it is there.
  pub record AreTakenFirst (quota : ℕ) (known : List ℕ → Option (LaneResult R)) (uploads : List (UploadState R))
      (own : Gathered R) : Type 0 where
    pub ones : List (TakenLane R)
    pub takes : AllZip (λ upload. IsTakenOf (first_lane quota upload)) uploads ones
    pub read : AllByRecursion (λ one. IfSome one.lane.1.upload (IsReadSo was_read)) ones
    pub entries : own.clients.entries ≡ map lane_let_go ones
    pub stop : own.stop ≡ stop_of (map (λ one. one.stop) ones)
    pub new : AllByRecursion (λ upload. known upload.client ≡ None) uploads

  -- it is that round as if its uploads still waited
  pub record IsRoundOf (quota : ℕ) (round : TakenRound R) (waiting : OpenRound R) : Type 0 where
    pub taken : waiting.taken ≡ round.kept.taken
    pub held : waiting.held.items ≡ round.kept.held.items
    pub own : AreTakenFirst quota (get bytes_eq round.kept.taken.gathered.clients) waiting.uploads.items round.own

  -- one name more of which that was made
  abbrev pub TellsNext : TakenRound R → DrawnFile R → TakenRound R → Type 0
  TellsNext old file new = (quota : ℕ) (said : Result (UploadState R) UploadEnd) (waiting : OpenRound R)
      → IsFileBy quota said file → IsRoundOf quota old waiting
      → (more : OpenRound R) × IsRoundOf quota new more × TellsOne waiting said more

  -- its names are told
  abbrev pub ClosesTaken : TakenRound R → TakenFiles R → Type 0
  ClosesTaken round taken = (quota : ℕ) (waiting : OpenRound R) → IsRoundOf quota round waiting → AreHeld waiting
      → AreReady waiting.uploads.items → (waiting.taken.status ≡ Done) ⊎ (waiting.uploads.items ≡ [])
      → Closes was_read quota waiting taken

  -- no name waits in it
  pub record IsNewRound (round : TakenRound R) : Type 0 where
    pub held : round.kept.held.items ≡ []
    pub uploads : round.kept.uploads.items ≡ []
    pub clients : round.own.clients.entries ≡ []
    pub stop : round.own.stop ≡ stops.None

  -- it is as it was, or its names are told
  abbrev pub MakesRoomTaken : TakenRound R → TakenRound R → Type 0
  MakesRoomTaken old new = (new ≡ old) ⊎ (ClosesTaken old new.kept.taken × IsNewRound new)

  module _ (opened : List ℕ → Result R Error → Type 0) where
    -- ---- the names that are drawn

    -- the name of that number, and what its file begins with; none but the first can't be opened
    pub record IsDrawn (names : List Named) (drawn : DrawnName R) : Type 0 where
      pub one : Named
      pub at : slice_get names drawn.number ≡ Some one
      pub greets : GreetsNamed was_read opened one drawn.said
      pub first : drawn.said ≡ Err Unopened → drawn.number ≡ 0

    module _ (quota : ℕ) where
      -- what is made of the name of that number
      pub record IsFileOf (names : List Named) (number : ℕ) (file : DrawnFile R) : Type 0 where
        pub drawn : DrawnName R
        pub number_is : drawn.number ≡ number
        pub is_drawn : IsDrawn names drawn
        pub file_is : IsFileBy quota drawn.said file

      -- these are made of the first names
      abbrev pub AreFilesOf : List Named → List (DrawnFile R) → Type 0
      AreFilesOf names files =
          (number : ℕ) (file : DrawnFile R) → slice_get files number ≡ Some file → IsFileOf names number file

-- What is taken of uploads, round by round, and what is promised of it: this project's own rule.
use Rattle.std.specs.Prelude.{◌≡◌, ℕ, List, [], ◌∷◌, ◌++◌, map, flat_map, take, drop, slice_get, bytes_eq, false, Option, Some, IsSome, Result}
use Rattle.std.specs.List.{AllByRecursion, AllZip, list_any}
use Rattle.std.specs.declared.io.Error.{Error}
use Rattle.indexmap.specs.IndexMap.{get}
use Rattle.byte_streams.specs.Answers.{Answer}
use Rattle.page_tree.specs.Tree.{Tree}
use Rattle.upload_reader.specs.Upload.{UploadState}
use Rattle.visit_replay.specs.RepairedSite.{RepairedSite}
use Rattle.conflict_desk.specs.Laws.{AllLeaveInOrder}
use Rattle.lanes_in_turn.specs.declared.gathered.Gathered.{Gathered}
use Rattle.lanes_in_turn.specs.declared.gathered.LaneResult.{LaneResult}
use Rattle.lanes_in_turn.specs.declared.gathered.Stop.TheVariants as stops
use Rattle.warp_run.specs.Repair.{docket_with_own}
use Rattle.warp_run.specs.Shortage.{status_of}
use Rattle.warp_run.specs.declared.repaired.Repaired.{Repaired}
use Rattle.warp_run.specs.declared.status.Status.TheVariants.{Done}
use Rattle.warp_server.specs.Headline.{docket_of}
use Rattle.warp_server.specs.Rounds.{HasLog}
use Rattle.warp_server.specs.program.Callers.{IsGreeted, RoundIsRead}
use Rattle.replay_folder.specs.Ends.{TakenUpload, FileEnd, unopened, IsEndOf, told_end, taken_upload, is_unread, AreUnreadLast}
use Rattle.replay_folder.specs.declared.ends.UploadEnd.{UploadEnd}
use Rattle.replay_folder.specs.declared.names.Named.{Named}

-- the uploads of these rounds, the last of which stands first, in the order in which they were taken
abbrev pub in_order : {X : Type 0} → List (List X) → List X
in_order [] = []
in_order (round ∷ before) = in_order before ++ round

module _ {R : Type 0} where
  abbrev pub uploads_of_round : List (TakenUpload R) → List (UploadState R)
  uploads_of_round round = map (λ one. one.upload) round

  -- that was taken of it, by the lane that its client has
  abbrev pub IsToldBy : Gathered R → TakenUpload R → Type 0
  IsToldBy gathered one = (lane : LaneResult R) × (get bytes_eq gathered.clients one.upload.client ≡ Some lane)
      × (one.taken ≡ lane.taken) × (one.end ≡ lane.end)

module _ {R : Type 0} (was_read : R → R → List Answer → Type 0) (quota : ℕ) where
  -- One round more: these uploads begin with hellos, and were taken to their ends behind what was gathered earlier.
  pub record TakesRound (earlier : Gathered R) (round : List (TakenUpload R)) (gathered : Gathered R) : Type 0 where
    pub greeted : AllByRecursion IsGreeted (uploads_of_round round)
    pub read : RoundIsRead was_read quota earlier (uploads_of_round round) gathered
    pub told : AllByRecursion (IsToldBy gathered) round

  -- these rounds, the last of them first
  abbrev pub TakesRounds : List (List (TakenUpload R)) → Gathered R → Type 0
  TakesRounds [] gathered = (gathered.clients.entries ≡ []) × (gathered.stop ≡ stops.None)
  TakesRounds (round ∷ before) gathered =
      (earlier : Gathered R) × TakesRounds before earlier × TakesRound earlier round gathered

  -- What is promised of uploads that were taken so, replayed on that site with these pages of single visits, and
  -- decided. (`warp_server`'s headline, with such pages.)
  pub record HeadlineOfFolder (site : RepairedSite) (own_page : List ℕ → ℕ → Option Tree)
      (rounds : List (List (TakenUpload R))) (gathered : Gathered R) (repaired : Repaired) : Type 0 where
    pub takes : TakesRounds rounds gathered
    -- each client that uploaded is there, and of each is recorded what its uploads gave, one after another
    pub clients : AllByRecursion (AllByRecursion (λ one. IsSome (get bytes_eq gathered.clients one.upload.client)))
        rounds
    pub has : AllByRecursion (HasLog quota (map uploads_of_round rounds)) gathered.clients.entries
    -- each visit that is kept has the outcome that replaying it gives, on its own page where it has one
    pub replayed : map docket_of repaired.desk ≡ map (docket_with_own site own_page) gathered.clients.entries
    -- each client's conflicts leave its queue once, in visit order
    pub leave : AllLeaveInOrder repaired.desk

-- `opened` says what to open the file at a path gave. These ends are those of the named uploads, each by its own file;
-- just those that were taken are in the rounds, in their order. None is left unread unless memory was refused, and then
-- the last ones are.
pub record TakesFiles {R : Type 0} (opened : List ℕ → Result R Error → Type 0)
    (was_read : R → R → List Answer → Type 0) (named : List Named) (ends : List UploadEnd)
    (rounds : List (List (TakenUpload R))) (gathered : Gathered R) : Type 0 where
  pub files : List (FileEnd R)
  pub told : map told_end files ≡ ends
  pub each : AllZip (IsEndOf opened was_read) named files
  pub taken : in_order rounds ≡ flat_map taken_upload files
  pub whole : status_of gathered ≡ Done → list_any is_unread ends ≡ false
  pub front : AreUnreadLast ends
  -- Where one can't be opened, rounds end before it: so many of them had taken all uploads before it.
  pub alone : (k : ℕ) → slice_get files k ≡ Some unopened
      → (later : ℕ) × (in_order (drop later rounds) ≡ flat_map taken_upload (take k files))

-- What the server promises of any number of uploads, in the words of the crates below:
--
-- However the threads run, the recorder has of each client a prefix of the messages in its stream, each once and in
-- order, and all of them once the uploader's end is taken; each kept visit to a patched page has the outcome that
-- replaying its kept events on the repaired page gives, whatever workers replay it; each client's conflicts leave its
-- queue once, in visit order.
use Rattle.std.specs.Prelude.{◌≡◌, ℕ, List, map, None, IsSome, bytes_eq}
use Rattle.std.specs.List.{AllZip, AllByRecursion}
use Rattle.indexmap.specs.IndexMap.{get}
use Rattle.upload_reader.specs.Upload.{UploadState}
use Rattle.visit_replay.specs.RepairedSite.{RepairedSite}
use Rattle.conflict_desk.specs.Book.{Book}
use Rattle.conflict_desk.specs.Laws.{AllLeaveInOrder}
use Rattle.conflict_desk.specs.declared.docket.Docket.{Docket}
use Rattle.lanes_in_turn.specs.Lane.{IsTaken}
use Rattle.lanes_in_turn.specs.Round.{new_log, resumed_upload}
use Rattle.lanes_in_turn.specs.declared.gathered.Gathered.{Gathered}
use Rattle.lanes_in_turn.specs.declared.gathered.LaneResult.{LaneResult}
use Rattle.warp_run.specs.Repair.{docket_for}
use Rattle.warp_server.specs.Rounds.{GathersRounds, HasLog}
use Rattle.warp_run.specs.declared.repaired.Repaired.{Repaired}

-- the client's docket as it was opened, whatever was decided since
abbrev pub docket_of : List ℕ × Book → Docket
docket_of entry = record { client = entry.0; cases = entry.1.cases }

-- each visit that is kept has the outcome that replaying it on that site gives
abbrev pub AreReplayed : {R : Type 0} → RepairedSite → Gathered R → Repaired → Type 0
AreReplayed site gathered repaired = map docket_of repaired.desk ≡ map (docket_for site) gathered.clients.entries

-- The recorder has of the upload's client a prefix of the messages in its stream, each once and in order, and all of
-- them where its end is taken.
pub record HasPrefix {R : Type 0} (quota : ℕ) (upload : UploadState R) (entry : List ℕ × LaneResult R) : Type 0 where
  pub client : entry.0 ≡ upload.client
  pub is_taken : IsTaken (new_log quota upload.client) (resumed_upload upload None) entry.1

module _ {R : Type 0} (site : RepairedSite) (quota : ℕ) where
  -- Of these uploads that was gathered, and it was so replayed on the repaired site, and decided.
  pub record Headline (uploads : List (UploadState R)) (gathered : Gathered R) (repaired : Repaired) : Type 0 where
    -- however the threads run, the recorder has of each client a prefix of its stream, and all of it once the
    -- uploader's end is taken
    pub has : AllZip (HasPrefix quota) uploads gathered.clients.entries
    -- each visit that is kept has the outcome that replaying it gives, whatever workers replay it
    pub replayed : AreReplayed site gathered repaired
    -- each client's conflicts leave its queue once, in visit order
    pub leave : AllLeaveInOrder repaired.desk

  -- The same of several rounds, the last of them first.
  pub record HeadlineOfRounds (rounds : List (List (UploadState R))) (gathered : Gathered R)
      (repaired : Repaired) : Type 0 where
    -- however the threads run, each round takes of each of its uploads a prefix of its stream, behind the rounds
    -- before, and all of it where its end is taken
    pub gathers : GathersRounds quota rounds gathered
    -- so each client that uploaded is there, and of each is recorded what its uploads gave, one after another
    pub clients : AllByRecursion (AllByRecursion (λ one. IsSome (get bytes_eq gathered.clients one.client))) rounds
    pub has : AllByRecursion (HasLog quota rounds) gathered.clients.entries
    pub replayed : AreReplayed site gathered repaired
    pub leave : AllLeaveInOrder repaired.desk

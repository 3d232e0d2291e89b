-- What is taken of one lane: this project's own rule. It speaks of that lane alone: of the log that stood before, of
-- the upload as it came, and of what was taken of it.
use Rattle.std.specs.Prelude.{◌≡◌, ℕ, ◌≤◌, List, ◌++◌, length, take, Some, None, IfSome}
use Rattle.byte_streams.specs.Answers.{Answer, bytes_of}
use Rattle.byte_streams.specs.Reading.{ReadsWhile}
use Rattle.upload_reader.specs.Limits.{max_messages}
use Rattle.upload_reader.specs.Next.{next_of, IfOver}
use Rattle.upload_reader.specs.Stream.{Costed, IsStreamOf}
use Rattle.upload_reader.specs.Upload.{UploadState, GivesFirst, EndsBy, lane_bytes}
use Rattle.upload_reader.specs.declared.ending.Ending.{Ending}
use Rattle.client_log.specs.Client.{OfClient}
use Rattle.client_log.specs.Log.{kept_log}
use Rattle.client_log.specs.Session.{session_of}
use Rattle.lanes_in_turn.specs.declared.gathered.LaneResult.{LaneResult}

-- what was read tells no end of the lane
abbrev pub NotOver : {R : Type 0} → UploadState R → List Answer → Type 0
NotOver upload answers = (messages : List Costed) × IsStreamOf upload.lane (lane_bytes upload (bytes_of answers)) None
    (record { messages = messages; end = None })

-- The same upload, read further, each read made before its end: what was read and what its reader still has are
-- together what they were.
pub record ReadsBeforeEnd {R : Type 0} (old new : UploadState R) : Type 0 where
  pub client : new.client ≡ old.client
  pub lane : new.lane ≡ old.lane
  pub start : new.start ≡ old.start
  pub reads : ReadsWhile (NotOver old) old.lines new.lines

-- The log goes on from the one before with these messages: whatever list that one and its session stand for, it
-- stands for that list followed by these.
pub record Continues (before log : OfClient) (messages : List Costed) : Type 0 where
  pub client : log.client ≡ before.client
  pub quota : log.quota ≡ before.quota
  pub log_is : (earlier : List Costed) → before.log ≡ kept_log before.quota earlier
      → log.log ≡ kept_log before.quota (earlier ++ messages)
  pub session_is : (earlier : List Costed) → before.session ≡ session_of earlier
      → log.session ≡ session_of (earlier ++ messages)

-- The upload ended so, and all its messages were taken. Where it didn't give up, that is the end of its stream.
pub record EndsWith {R : Type 0} (upload : UploadState R) (taken : ℕ) (end : Ending) : Type 0 where
  pub ending : upload.ending ≡ Some end
  pub all : taken ≡ length upload.given
  pub over : IfOver (next_of end) (EndsBy upload)

-- The first messages of the lane's stream were recorded behind the log that stood before, so many as were taken.
pub record IsTaken {R : Type 0} (before : OfClient) (begun : UploadState R) (lane : LaneResult R) : Type 0 where
  pub now : UploadState R
  pub upload_is : lane.upload ≡ Some now
  pub own : ReadsBeforeEnd begun now
  pub first : GivesFirst now
  pub few : length now.given ≤ max_messages
  pub some : lane.taken ≤ length now.given
  pub goes_on : Continues before lane.log (take lane.taken now.given)
  pub ends : IfSome lane.end (EndsWith now lane.taken)

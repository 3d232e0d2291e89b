-- What clauses see of an upload: what was read of it, where its lane began, what was given of it and how it ended.
use Rattle.std.specs.Prelude.{◌≡◌, ◌≢◌, ℕ, ◌+◌, ◌≤◌, List, [], ◌++◌, drop, Option, Some, None, Ok, Err, IfSome}
use Rattle.byte_streams.specs.Answers.{Answer, bytes_of}
use Rattle.byte_streams.specs.Cutting.{ending_of}
use Rattle.byte_streams.specs.GoesOn.{GoesOn}
use Rattle.byte_streams.specs.Reading.{Reading, ReadsWhile, input}
use Rattle.byte_streams.specs.declared.fault.LineFault.{LineFault}
use Rattle.byte_streams.specs.declared.fault.LineFault.TheVariants as line
use Rattle.upload_reader.specs.Greeting.{Greeting, IsGreetingOf, lines_length, hello_fault_of}
use Rattle.upload_reader.specs.Next.{given_by, ending_by}
use Rattle.upload_reader.specs.Stream.{Costed, Stream, StreamStart, IsStreamOf, BeginsWith}
use Rattle.upload_reader.specs.declared.ending.Ending.{Ending}
use Rattle.upload_reader.specs.declared.hello_fault.HelloFault.{HelloFault}
use Rattle.upload_reader.specs.declared.hello_fault.HelloFault.TheVariants.{NoMemory}
use Rattle.upload_reader.specs.declared.lane_fault.LaneEnd.{LaneEnd}
use Rattle.upload_reader.specs.declared.message.Message.{Message}
use Rattle.upload_reader.specs.declared.next.Next.{Next}

pub record UploadState (R : Type 0) : Type 0 where
  -- its client's name
  pub client : List ℕ
  pub lines : Reading R
  -- the lane, and behind how many of the bytes it begins
  pub lane : StreamStart
  pub start : ℕ
  -- the messages that were given, in order, and the last answer where that ended it
  pub given : List Costed
  pub ending : Option Ending

-- the bytes of the lane among these
abbrev pub lane_bytes : {R : Type 0} → UploadState R → List ℕ → List ℕ
lane_bytes upload bytes = drop upload.start bytes

-- it is so however the input of these lines goes on
abbrev pub OnEachInput : {R : Type 0} → Reading R → (List ℕ → Option LineFault → Type 0) → Type 0
OnEachInput lines IsSo = (input' : List ℕ) (ending' : Option LineFault)
    → GoesOn (input lines) input' (ending_of lines.answers) ending' → IsSo input' ending'

-- ---- how an upload begins

-- however the input of these lines goes on, the upload that begins at this place begins so
abbrev pub Greets : {R : Type 0} → ℕ → Reading R → Greeting → Type 0
Greets place lines greeting =
    OnEachInput lines (λ input' ending'. IsGreetingOf (drop place input') ending' (Some greeting))

-- what was read doesn't tell how the upload begins
abbrev pub NotGreeted : ℕ → List Answer → Type 0
NotGreeted place answers = IsGreetingOf (drop place (bytes_of answers)) None None

-- the upload of that client whose lane begins here, behind that session and so many lines
abbrev pub upload_behind : {R : Type 0} → List ℕ → Reading R → List Message → ℕ → UploadState R
upload_behind client lines earlier number =
    let lane : StreamStart = record { earlier = earlier; lines = number; fault = lines.fault } in
    record { client = client; lines = lines; lane = lane; start = lines.place; given = []; ending = None }

-- The upload begins behind its hello, which the lines hold: its client, and a lane with nothing said before.
pub record Begins {R : Type 0} (old : Reading R) (upload : UploadState R) : Type 0 where
  pub going : old.fault ≡ None
  pub reads : ReadsWhile (NotGreeted old.place) old upload.lines
  pub greets : Greets old.place upload.lines (record { lines = upload.lane.lines; answer = Ok upload.client })
  pub lane : upload.lane ≡ record { earlier = []; lines = upload.lane.lines; fault = None }
  pub start : upload.start ≡ upload.lines.place
  pub behind : upload.start ≡ old.place + lines_length upload.lane.lines (drop old.place (input upload.lines))
  pub fresh : (upload.given ≡ []) × (upload.ending ≡ None)

-- The upload doesn't begin: the first fault, want of memory aside. A fault that the lines have behind it is the one
-- told, and each that is told is theirs. Lines that had a fault are left as they are.
pub record Refuses {R : Type 0} (old new : Reading R) (fault : HelloFault) : Type 0 where
  pub reads : ReadsWhile (NotGreeted old.place) old new
  pub lines : ℕ
  pub greets : old.fault ≡ None → fault ≢ NoMemory → Greets old.place new (record { lines = lines; answer = Err fault })
  pub place : old.fault ≡ None → fault ≢ NoMemory
      → new.place ≡ old.place + lines_length lines (drop old.place (input new))
  pub behind : old.place ≤ new.place
  pub leaves : IfSome new.fault (λ had. fault ≡ hello_fault_of (lines + 1) had)
  pub told : (at : ℕ) (had : LineFault) → had ≢ line.NoMemory → fault ≡ hello_fault_of at had → new.fault ≡ Some had
  pub again : IfSome old.fault (λ had. (fault ≡ hello_fault_of 1 had) × (new ≡ old))

-- nothing was asked of it yet
pub record IsUntouched {R : Type 0} (upload : UploadState R) : Type 0 where
  pub given : upload.given ≡ []
  pub ending : upload.ending ≡ None
  pub place : upload.lines.place ≡ upload.start

-- ---- what is given of it

-- the upload after that answer, for which its lines were read so far
abbrev pub with_answer : {R : Type 0} → Next → Reading R → UploadState R → UploadState R
with_answer answer lines upload =
    record upload { lines = lines; given = upload.given ++ given_by answer; ending = ending_by answer }

-- however the input goes on, the messages of the lane begin with those that were given
abbrev pub GivesFirst : {R : Type 0} → UploadState R → Type 0
GivesFirst upload = (more : List ℕ) (ending : Option LineFault) → (stream : Stream)
    × IsStreamOf upload.lane (lane_bytes upload (input upload.lines ++ more)) ending stream
    × BeginsWith upload.given stream.messages

-- what a lane says whose input is that of this upload
abbrev pub IsLane : {R : Type 0} → UploadState R → List ℕ → Option LineFault → Option LaneEnd → Type 0
IsLane upload bytes ending end =
    IsStreamOf upload.lane (lane_bytes upload bytes) ending (record { messages = upload.given; end = end })

-- However its input goes on, the lane has the messages that were given, and this end.
abbrev pub EndsBy : {R : Type 0} → UploadState R → LaneEnd → Type 0
EndsBy upload end = OnEachInput upload.lines (λ input' ending'. IsLane upload input' ending' (Some end))

-- what was read holds no further message of the lane and no end
abbrev pub NothingMore : {R : Type 0} → UploadState R → List Answer → Type 0
NothingMore upload answers = IsLane upload (bytes_of answers) None None

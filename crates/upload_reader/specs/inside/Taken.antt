-- How far a lane was taken, by what the code keeps.
use Rattle.std.specs.Prelude.{◌≡◌, ℕ, ◌+◌, ◌≤◌, List, [], ◌∷◌, length, Option, Some, None, IsNone, IsSome, IfSome, Result}
use Rattle.std.specs.Option.{option_map_or}
use Rattle.byte_streams.specs.Reading.{Reading, input, failures_told}
use Rattle.byte_streams.specs.declared.fault.LineFault.{LineFault}
use Rattle.upload_reader.specs.Limits.{max_line_bytes}
use Rattle.upload_reader.specs.Next.{next_of, failed_reads, IfOver, IsReal}
use Rattle.upload_reader.specs.Stream.{StreamStart, messages_in, message_said, said_end, line_end, stop_end, kind_of}
use Rattle.upload_reader.specs.Upload.{UploadState, EndsBy}
use Rattle.upload_reader.specs.inside.Passed.{PassedBetween}
use Rattle.upload_reader.specs.declared.ending.Ending.{Ending}
use Rattle.upload_reader.specs.declared.ending.Ending.TheVariants as ending
use Rattle.upload_reader.specs.declared.lane_fault.LaneEnd.{LaneEnd}
use Rattle.upload_reader.specs.declared.lane_fault.LaneEnd.TheVariants.{Fault}
use Rattle.upload_reader.specs.declared.lane_fault.LaneFault.{LaneFault}
use Rattle.upload_reader.specs.declared.line.Line.{Line}
use Rattle.upload_reader.specs.declared.next.Next.{Next}
use Rattle.upload_reader.specs.declared.next.Next.TheVariants.{Got, Over, GaveUp}
use Rattle.upload_reader.specs.declared.progress.Progress.{Progress}

-- where it began
abbrev pub lane_of : Progress → StreamStart
lane_of p = record { earlier = p.first_session.value; lines = p.first_lines.value; fault = p.first_fault.value }

-- the upload that keeps these
abbrev pub upload_of : {R : Type 0} → List ℕ → Reading R → Progress → ℕ → Option Ending → UploadState R
upload_of client lines p start ending =
    record { client = client; lines = lines; lane = lane_of p; start = start; given = p.given.items; ending = ending }

-- Between the lane's start and a place stand lines none of which ends it, and the messages given are theirs. While it
-- has not ended, so many lines are cut up to that place.
pub record LaneTaken {R : Type 0} (upload : UploadState R) (count : ℕ) : Type 0 where
  pub at : ℕ
  pub front : List (List ℕ)
  pub behind : PassedBetween max_line_bytes (line_end upload.lane) (stop_end upload.lane) (input upload.lines)
      upload.start at front
  pub says : upload.given ≡ messages_in front
  pub had : IsSome upload.lane.fault → front ≡ []
  pub numbered : upload.lane.lines ≤ upload.start
  pub here : IsNone upload.ending → (at ≡ upload.lines.place) × (count ≡ upload.lane.lines + length front)
      × (upload.lines.fault ≡ upload.lane.fault)
  pub ended : IfSome upload.ending (λ ending. IfOver (next_of ending) (EndsBy upload))
  pub real : IfSome upload.ending (λ ending. IfOver (next_of ending) IsReal)
  pub failures : upload.lane.fault ≡ None → failures_told upload.lines.fault ≡ failed_reads upload.ending

-- ---- one line

-- what is answered where there is no line of that number: its fault, or nothing for want of memory
abbrev pub fault_next : ℕ → LineFault → Next
fault_next number fault = option_map_or (λ kind. Over (Fault number kind)) (kind_of fault) GaveUp

-- how a text can end a lane: by a fault of its own, and by no failed read
abbrev pub EndsByText : LaneEnd → Type 0
EndsByText end = IsReal end × (failed_reads (Some (ending.Over end)) ≡ 0)

-- what is answered where the line of that number says this and costs so much
abbrev pub AnswersSaid : Progress → ℕ → Result Line LaneFault → ℕ → Next → Type 0
AnswersSaid p number said cost (Got message price) =
    (message_said cost said ≡ (message, price) ∷ []) × (said_end (lane_of p) p.given.items number said ≡ None)
AnswersSaid p number said cost (Over end) = (said_end (lane_of p) p.given.items number said ≡ Some end) × EndsByText end
AnswersSaid p number said cost GaveUp = Unit {0}

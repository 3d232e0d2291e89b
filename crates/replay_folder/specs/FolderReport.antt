-- The report of a folder of uploads: this project's own format. It is that of a run, with a line for each upload behind
-- the first.
use Rattle.std.specs.Prelude.{ℕ, List, [], ◌∷◌, ◌++◌, fold, zip, flat_map, bytes_eq, decimal, codes, if◌then◌else◌, Option, None}
use Rattle.upload_reader.specs.Hello.{hello_fault_code}
use Rattle.upload_reader.specs.LaneFaultCode.{lane_fault_code}
use Rattle.upload_reader.specs.declared.ending.Ending.{Ending}
use Rattle.upload_reader.specs.declared.hello_fault.HelloFault.{HelloFault}
use Rattle.upload_reader.specs.declared.hello_fault.HelloFault.TheVariants as hello
use Rattle.lanes_in_turn.specs.declared.gathered.LaneResult.{LaneResult}
use Rattle.warp_run.specs.Repair.{summary_by}
use Rattle.warp_run.specs.Report.{report_line, end_word, json_string}
use Rattle.warp_run.specs.declared.repaired.ClientSummary.{ClientSummary}
use Rattle.replay_folder.specs.Names.{named_name}
use Rattle.replay_folder.specs.declared.names.Named.{Named}
use Rattle.replay_folder.specs.declared.ends.UploadEnd.{UploadEnd}
use Rattle.replay_folder.specs.declared.ends.UploadEnd.TheVariants.{Unopened, NoHello, Taken, Unread}

-- why an upload doesn't begin: `U1`, `U2`, or `U3` with the line's own fault and its number, as `U3.E5@1`
abbrev pub hello_word : HelloFault → List ℕ
hello_word (hello.Line number fault) = hello_fault_code (hello.Line number fault)
    ++ (codes "." ++ (lane_fault_code fault ++ (codes "@" ++ decimal number)))
hello_word fault = hello_fault_code fault

-- `U5`: it can't be opened
abbrev pub end_words : UploadEnd → List (List ℕ)
end_words Unopened = codes "U5" ∷ []
end_words (NoHello fault) = hello_word fault ∷ []
end_words (Taken client taken end) =
    codes "client" ∷ client ∷ codes "taken" ∷ decimal taken ∷ codes "end" ∷ end_word end ∷ []
end_words Unread = codes "none" ∷ []

abbrev pub upload_line : Named × UploadEnd → List ℕ
upload_line one = report_line (codes "upload" ∷ json_string (named_name one.0) ∷ end_words one.1)

abbrev pub upload_lines : List Named → List UploadEnd → List ℕ
upload_lines named ends = flat_map upload_line (zip named ends)

-- ---- what is said of a client: how many were taken of its last upload, and how that ended

abbrev pub told_of : List ℕ → ℕ × Option Ending → UploadEnd → ℕ × Option Ending
told_of client last (Taken other taken end) = if bytes_eq other client then (taken, end) else last
told_of client last other = last

abbrev pub last_told : List UploadEnd → List ℕ → ℕ × Option Ending
last_told ends client = fold (told_of client) (0, None) ends

abbrev pub last_summary : {R : Type 0} → List UploadEnd → List ℕ × LaneResult R → ClientSummary
last_summary ends entry =
    let last = last_told ends entry.0 in summary_by entry.0 last.0 last.1 entry.1.log.log

-- The text of a report: this project's own format.
use Rattle.std.specs.Prelude.{ℕ, List, [], ◌∷◌, ◌++◌, codes, decimal, Option, Some, None, Result, Ok, Err}
use Rattle.std.specs.List.{flat_map, join_with_byte}
use Rattle.std.specs.Option.{option_map_or}
use Rattle.serde_json.specs.Data.{string}
use Rattle.serde_json.specs.Written.{compact_text}
use Rattle.byte_streams.specs.Writing.{CallWrites, Takes, TakesPart, WritesNothing}
use Rattle.upload_reader.specs.LaneFaultCode.{lane_fault_code}
use Rattle.upload_reader.specs.declared.ending.Ending.{Ending}
use Rattle.upload_reader.specs.declared.ending.Ending.TheVariants.{Over, GaveUp}
use Rattle.upload_reader.specs.declared.lane_fault.LaneEnd.TheVariants.{Bye, Fault}
use Rattle.visit_replay.specs.Conflict.{conflict_code}
use Rattle.visit_replay.specs.declared.difference.Contrast.{Contrast}
use Rattle.visit_replay.specs.declared.difference.Contrast.TheVariants as contrast
use Rattle.visit_replay.specs.declared.requests.Method.{Method}
use Rattle.visit_replay.specs.declared.requests.Method.TheVariants.{Load, Get, Post}
use Rattle.visit_replay.specs.declared.requests.Request.{Request}
use Rattle.visit_replay.specs.declared.outcome.Outcome.{Outcome}
use Rattle.visit_replay.specs.declared.outcome.Outcome.TheVariants as outcome
use Rattle.conflict_desk.specs.Book.{Book, standing_in, standing_requests}
use Rattle.conflict_desk.specs.Desk.{Books, book_of}
use Rattle.conflict_desk.specs.Fault.{desk_fault_code}
use Rattle.conflict_desk.specs.declared.docket.Case.{Case}
use Rattle.conflict_desk.specs.declared.decided.Choice.{Choice}
use Rattle.conflict_desk.specs.declared.decided.Choice.TheVariants.{Cancel, Keep}
use Rattle.conflict_desk.specs.declared.decided.Standing.{Standing}
use Rattle.conflict_desk.specs.declared.decided.Standing.TheVariants.{Untouched, Done, Waiting, Kept, Cancelled}
use Rattle.conflict_desk.specs.declared.fault.DeskFault.{DeskFault}
use Rattle.conflict_desk.specs.declared.fault.DeskFault.TheVariants as desk_fault
use Rattle.lanes_in_turn.specs.declared.gathered.Stop.{Stop}
use Rattle.lanes_in_turn.specs.declared.gathered.Stop.TheVariants as stop
use Rattle.warp_run.specs.declared.repaired.ClientSummary.{ClientSummary}
use Rattle.warp_run.specs.declared.repaired.PutDecision.{PutDecision}
use Rattle.warp_run.specs.declared.repaired.Repaired.{Repaired}
use Rattle.warp_run.specs.declared.reporting.fault.ReportFault.{ReportFault}
use Rattle.warp_run.specs.declared.reporting.fault.ReportFault.TheVariants as report_fault

-- ---- words

-- words parted by one space, and the line's end
abbrev pub report_line : List (List ℕ) → List ℕ
report_line words = join_with_byte 32 words ++ 10 ∷ []

-- a fault stands at a line
abbrev pub end_word : Option Ending → List ℕ
end_word None = codes "none"
end_word (Some GaveUp) = codes "gaveup"
end_word (Some (Over Bye)) = codes "bye"
end_word (Some (Over (Fault line kind))) = lane_fault_code kind ++ codes "@" ++ decimal line

abbrev pub standing_word : Standing → List ℕ
standing_word Untouched = codes "untouched"
standing_word Done = codes "done"
standing_word Waiting = codes "waiting"
standing_word Kept = codes "kept"
standing_word Cancelled = codes "cancelled"

-- why it is a conflict, and at which event; nothing of an outcome that is none
abbrev pub conflict_words : Outcome → List (List ℕ)
conflict_words (outcome.Conflict requests at kind) = conflict_code kind ∷ codes "at" ∷ decimal at ∷ []
conflict_words other = []

abbrev pub choice_word : Choice → List ℕ
choice_word Cancel = codes "cancel"
choice_word Keep = codes "keep"

-- what a decision was answered; where that visit wasn't the front, with what was
abbrev pub answer_words : Result (Unit {0}) DeskFault → List (List ℕ)
answer_words (Ok made) = codes "ok" ∷ []
answer_words (Err (desk_fault.NotFront front)) =
    desk_fault_code (desk_fault.NotFront front) ∷ codes "front" ∷ option_map_or decimal front (codes "none") ∷ []
answer_words (Err fault) = desk_fault_code fault ∷ []

-- ---- lines

abbrev pub stop_line : Stop → List ℕ
stop_line stop.None = report_line (codes "stop" ∷ codes "none" ∷ [])
stop_line stop.Asked = report_line (codes "stop" ∷ codes "asked" ∷ [])
stop_line stop.Memory = report_line (codes "stop" ∷ codes "memory" ∷ [])

abbrev pub client_line : ClientSummary → List ℕ
client_line c = report_line (codes "client" ∷ c.client ∷ codes "taken" ∷ decimal c.taken ∷ codes "end" ∷ end_word c.end
    ∷ codes "cost" ∷ decimal c.cost ∷ codes "lost" ∷ decimal c.lost ∷ [])

abbrev pub visit_line : ℕ → Standing → Outcome → List ℕ
visit_line visit standing outcome =
    report_line (codes "visit" ∷ decimal visit ∷ standing_word standing ∷ conflict_words outcome)

abbrev pub request_words : Method → List ℕ → List ℕ → List ℕ → List (List ℕ)
request_words Load number address pairs = codes "load" ∷ number ∷ address ∷ []
request_words Get number address pairs = codes "get" ∷ number ∷ address ∷ []
request_words Post number address pairs = codes "post" ∷ number ∷ address ∷ pairs ∷ []

-- a text as a JSON string (RFC 8259, section 7), as `serde_json` writes it
abbrev pub json_string : List ℕ → List ℕ
json_string text = compact_text (string text)

abbrev pub request_line : Request → List ℕ
request_line r = report_line (request_words r.method (decimal r.number) (json_string r.address) (json_string r.pairs))

-- what a request was, or is now, where that is told
abbrev pub marked_line : List ℕ → Option Request → List ℕ
marked_line word told = option_map_or (λ r. word ++ codes " " ++ request_line r) told []

-- each request, and behind it what it was, where it is another now
abbrev pub told_requests : List (Option Request) → List Request → List ℕ
told_requests former [] = []
told_requests [] (r ∷ rest) = request_line r ++ told_requests [] rest
told_requests (was ∷ former) (r ∷ rest) =
    request_line r ++ (marked_line (codes "was") was ++ told_requests former rest)

abbrev pub former_of : Option Contrast → List (Option Request)
former_of (Some (contrast.Done was)) = was
former_of other = []

-- under a visit that waits since an element has changed (K11): what its event asked for, and what it asks for now
abbrev pub changed_text : Standing → Option Contrast → List ℕ
changed_text Waiting (Some (contrast.Changed was now)) = marked_line (codes "was") was ++ marked_line (codes "now") now
changed_text standing other = []

abbrev pub decision_line : PutDecision → List ℕ
decision_line put =
    report_line (codes "decide" ∷ put.decision.client ∷ decimal put.decision.visit ∷ choice_word put.decision.choice
    ∷ answer_words put.answer)

-- ---- the whole text

-- each visit's line stands before those of its requests, each client's before those of its visits, and the decisions
-- stand last

abbrev pub visit_text : Book → Case → List ℕ
visit_text book case = let standing = standing_in book case in
    let requests = told_requests (former_of case.difference) (standing_requests book case) in
    visit_line case.visit standing case.outcome ++ (requests ++ changed_text standing case.difference)

abbrev pub book_text : Book → List ℕ
book_text book = flat_map (visit_text book) book.cases

abbrev pub client_text : Books → ClientSummary → List ℕ
client_text desk client = client_line client ++ option_map_or book_text (book_of client.client desk) []

abbrev pub repaired_text : Repaired → List ℕ
repaired_text repaired =
    flat_map (client_text repaired.desk) repaired.clients ++ flat_map decision_line repaired.decided

abbrev pub report_text : Repaired → List ℕ
report_text repaired = stop_line repaired.stop ++ repaired_text repaired

-- the same with these lines behind the first
abbrev pub report_with : List ℕ → Repaired → List ℕ
report_with uploads repaired = stop_line repaired.stop ++ (uploads ++ repaired_text repaired)

-- ---- the writing of it

-- The whole text is written; or a part from its front, and then a write failed or took nothing (O1); or nothing, for
-- want of memory (O2).
abbrev pub WritesReport : CallWrites → List ℕ → Result (Unit {0}) ReportFault → Type 0
WritesReport call text (Ok done) = Takes call text 0
WritesReport call text (Err report_fault.WriteFailed) = TakesPart call text
WritesReport call text (Err report_fault.NoMemory) = WritesNothing call

abbrev pub report_fault_code : ReportFault → List ℕ
report_fault_code report_fault.WriteFailed = codes "O1"
report_fault_code report_fault.NoMemory = codes "O2"

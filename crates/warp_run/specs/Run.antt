-- What a run answers and writes, by what its reads gave: this project's own rules. The input is the bytes that the
-- reads gave, and how it ended.
use Rattle.std.specs.Prelude.{◌≡◌, ◌≢◌, ℕ, ◌+◌, List, [], ◌∷◌, ◌++◌, length, drop, Option, Some, None, Result, Ok, Err, ◌⊎◌}
use Rattle.byte_streams.specs.Answers.{Answer, bytes_of}
use Rattle.byte_streams.specs.Cutting.{cut, ending_of, StopsAtEnd}
use Rattle.byte_streams.specs.Reading.{Reading, MadeWhile}
use Rattle.byte_streams.specs.Writing.{CallWrites, Takes, TakesPart, WritesNothing}
use Rattle.byte_streams.specs.declared.fault.LineFault.{LineFault}
use Rattle.byte_streams.specs.declared.fault.LineFault.TheVariants.{ReadFailed}
use Rattle.upload_reader.specs.Greeting.{IsGreetingOf, lines_length}
use Rattle.upload_reader.specs.Stream.{Costed, Stream, IsStreamOf, BeginsWith}
use Rattle.upload_reader.specs.declared.ending.Ending.{Ending}
use Rattle.upload_reader.specs.declared.ending.Ending.TheVariants.{Over, GaveUp}
use Rattle.upload_reader.specs.declared.hello_fault.HelloFault.{HelloFault}
use Rattle.upload_reader.specs.declared.lane_fault.LaneEnd.{LaneEnd}
use Rattle.client_log.specs.Log.{kept_log}
use Rattle.visit_replay.specs.RepairedSite.{RepairedSite}
use Rattle.site_line.specs.Site.{Site, IsSiteLine, page_of, signals_of}
use Rattle.warp_run.specs.Repair.{summary_by, docket_by, new_repaired}
use Rattle.warp_run.specs.Settle.{after_decisions}
use Rattle.warp_run.specs.Report.{report_text}
use Rattle.warp_run.specs.declared.repaired.Repaired.{Repaired}
use Rattle.lanes_in_turn.specs.declared.gathered.Stop.{Stop}
use Rattle.lanes_in_turn.specs.declared.gathered.Stop.TheVariants as stops
use Rattle.warp_run.specs.declared.status.Status.{Status}
use Rattle.warp_run.specs.declared.status.Status.TheVariants.{Done, BadSite, BadHello, OutOfMemory, InputOutput}

-- ---- the source

-- the lines of a source of which nothing was read yet
abbrev pub fresh_lines : {R : Type 0} → R → Reading R
fresh_lines reader = record { first = reader; answers = []; place = 0; line = []; fault = None }

-- just these reads were made of the source, and none behind the input's end
abbrev pub IsReadOf : {R : Type 0} → (R → R → List Answer → Type 0) → R → R → List Answer → Type 0
IsReadOf told first now reads = told first now reads × StopsAtEnd reads

-- ---- what is made of the messages that were taken of a lane

-- the site as it is after the repair, as the site line says it
abbrev pub plain_repaired : Site → RepairedSite
plain_repaired site = record
    { page_of = page_of site; signals = λ address. signals_of site; patch = site.patched; same = site.same }

-- Of the messages the log keeps what the site's quota leaves. Its visits are replayed on the site, and then the site's
-- decisions are made.
abbrev pub repaired_by : Site → Stop → List ℕ → List Costed → Option Ending → Repaired
repaired_by site stop client messages end =
    let log = kept_log site.quota messages in
    let docket = docket_by (plain_repaired site) client log in
    after_decisions site.decisions (new_repaired stop (summary_by client (length messages) end log ∷ []) (docket ∷ []))

-- ---- the site line

-- the first line of the input, of at most 1 MiB, or why there is none
abbrev pub max_site_bytes : ℕ
max_site_bytes = 1048576

abbrev pub site_line : List ℕ → Option LineFault → Option (Result (List ℕ) LineFault)
site_line input ending = cut max_site_bytes input ending

-- status 3: there is no site line, though no read failed, or it says no site
abbrev pub HasBadSite : List ℕ → Option LineFault → Type 0
HasBadSite input ending = ((fault : LineFault) × (fault ≢ ReadFailed) × (site_line input ending ≡ Some (Err fault)))
    ⊎ ((line : List ℕ) × (site_line input ending ≡ Some (Ok line)) × ((site : Site) → ¬ IsSiteLine line site))

-- status 6: a read of the site line failed
abbrev pub HasFailedRead : List ℕ → Option LineFault → Type 0
HasFailedRead input ending = site_line input ending ≡ Some (Err ReadFailed)

-- ---- the upload behind it

-- The site line with its site, and so many lines of the upload behind it, no fewer of which say whose it is, or why it
-- doesn't begin.
pub record Opening (input : List ℕ) (ending : Option LineFault) (said : Result (List ℕ) HelloFault) : Type 0 where
  pub line : List ℕ
  pub cut_is : site_line input ending ≡ Some (Ok line)
  pub site : Site
  pub site_is : IsSiteLine line site
  pub lines : ℕ
  pub begins : IsGreetingOf (drop (length line + 1) input) ending (Some (record { lines = lines; answer = said }))

-- status 4: it begins with no hello
abbrev pub HasBadHello : List ℕ → Option LineFault → Type 0
HasBadHello input ending = (fault : HelloFault) × Opening input ending (Err fault)

module _ {input : List ℕ} {ending : Option LineFault} {said : Result (List ℕ) HelloFault} where
  -- what the lane behind it says of these bytes, which end so
  abbrev pub LaneSays : Opening input ending said → List ℕ → Option LineFault → Stream → Type 0
  LaneSays opening bytes last stream =
      let upload = length opening.line + 1 in let place = upload + lines_length opening.lines (drop upload input) in
      IsStreamOf (record { earlier = []; lines = opening.lines; fault = None }) (drop place bytes) last stream

-- ---- the report of an input

-- The text reports these messages of the client whose upload stands behind the site line, and how the lane ended or why
-- the run stopped.
pub record IsReportOf (input : List ℕ) (ending : Option LineFault) (stop : Stop) (messages : List Costed)
    (end : Option Ending) (text : List ℕ) : Type 0 where
  pub client : List ℕ
  pub opening : Opening input ending (Ok client)
  pub text_is : text ≡ report_text (repaired_by opening.site stop client messages end)

-- status 0: of all messages of the lane, with its end
pub record HasReport (input : List ℕ) (ending : Option LineFault) (text : List ℕ) : Type 0 where
  pub messages : List Costed
  pub end : LaneEnd
  pub report : IsReportOf input ending stops.None messages (Some (Over end)) text
  pub all : LaneSays report.opening input ending (record { messages = messages; end = Some end })

-- status 5: of its first messages, which it begins with however the input goes on
pub record HasShortReport (input : List ℕ) (ending : Option LineFault) (text : List ℕ) : Type 0 where
  pub messages : List Costed
  pub stop : Stop
  pub end : Option Ending
  -- the lane gave up, or a message couldn't be recorded
  pub is_short : ((stop ≡ stops.None) × (end ≡ Some GaveUp)) ⊎ ((stop ≡ stops.Memory) × (end ≡ None))
  pub report : IsReportOf input ending stop messages end text
  pub first : (more : List ℕ) (last : Option LineFault) → (stream : Stream)
      × LaneSays report.opening (input ++ more) last stream × BeginsWith messages stream.messages

-- ---- what a run does

-- of these bytes, of which more may come, there is nothing to answer yet: no report and no refusal
abbrev pub IsUndecided : List ℕ → Type 0
IsUndecided input =
    ((text : List ℕ) → ¬ HasReport input None text) × (¬ HasBadSite input None) × (¬ HasBadHello input None)

-- each was made where the bytes of those before it decided nothing
abbrev pub ReadWhileUndecided : List Answer → Type 0
ReadWhileUndecided reads = MadeWhile (λ earlier. IsUndecided (bytes_of earlier)) [] reads

-- What the reads gave holds so, each was needed, and none was made after the input's end.
pub record Reads (was_read Needed : List Answer → Type 0) (P : List ℕ → Option LineFault → Type 0) : Type 0 where
  pub more : List Answer
  pub told : was_read more
  pub needed : Needed more
  pub ends : StopsAtEnd more
  pub holds : P (bytes_of more) (ending_of more)

-- a text that the input has was written whole
abbrev pub Writes : CallWrites → (List ℕ → Option LineFault → List ℕ → Type 0) → List ℕ → Option LineFault → Type 0
Writes call Has input ending = (text : List ℕ) × Has input ending text × Takes call text 0

-- status 6: a part from the front of either report was written, and then a write failed or took nothing
abbrev pub WritesPart : CallWrites → List ℕ → Option LineFault → Type 0
WritesPart call input ending =
    (text : List ℕ) × (HasReport input ending text ⊎ HasShortReport input ending text) × TakesPart call text

module _ (was_read : List Answer → Type 0) (writes : CallWrites) where
  abbrev pub Meets : Status → Type 0
  Meets Done = Reads was_read ReadWhileUndecided (Writes writes HasReport)
  Meets BadSite = WritesNothing writes × Reads was_read ReadWhileUndecided HasBadSite
  Meets BadHello = WritesNothing writes × Reads was_read ReadWhileUndecided HasBadHello
  Meets OutOfMemory = WritesNothing writes ⊎ Reads was_read ReadWhileUndecided (Writes writes HasShortReport)
  Meets InputOutput = (WritesNothing writes × Reads was_read ReadWhileUndecided HasFailedRead)
      ⊎ Reads was_read ReadWhileUndecided (WritesPart writes)

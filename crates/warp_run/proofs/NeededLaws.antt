-- Each read was made where the bytes before it decided nothing: of the site line, of the hello and of the lane.
use Rattle.std.proofs.Common.{◌≡◌, ℕ, ◌+◌, List, [], ◌++◌, length, take, drop, Option, Some, None, Result, Ok, Err, inl, inr, refl, sym, ap, subst, ◌∙◌, append-nil}
use Rattle.byte_streams.specs.Answers.{Answer, bytes_of}
use Rattle.byte_streams.specs.Cutting.{ending_of}
use Rattle.byte_streams.specs.GoesOn.{GoesOn}
use Rattle.byte_streams.specs.Reading.{Reading, ReadsWhile, NoLineYet, input}
use Rattle.byte_streams.specs.declared.fault.LineFault.{LineFault}
use Rattle.byte_streams.proofs.CutLaws.{cut_longer}
use Rattle.byte_streams.proofs.ReadingLaws.{bytes_of-append, made_then}
use Rattle.upload_reader.specs.Greeting.{Greeting, IsGreetingOf}
use Rattle.upload_reader.specs.Stream.{Costed, IsStreamOf}
use Rattle.upload_reader.specs.Upload.{UploadState, Begins, NotGreeted}
use Rattle.upload_reader.specs.declared.hello_fault.HelloFault.{HelloFault}
use Rattle.site_line.specs.Site.{Site as PlainSite, IsSiteLine}
use Rattle.site_line.specs.declared.site.Site.{Site}
use Rattle.lanes_in_turn.specs.Lane.{NotOver}
use Rattle.warp_run.specs.Run.{site_line, max_site_bytes, HasReport, Opening, IsUndecided, ReadWhileUndecided, fresh_lines}
use Rattle.warp_run.specs.Intake.{IsBehindSite}
use Rattle.warp_run.proofs.OpeningLaws.{greets, lane_place, same_lines, same_said, greeting_once, end_once, opens_stays}

pub goes_nowhere : (input : List ℕ) (ending : Option LineFault) → GoesOn input input ending ending
goes_nowhere input ending = record { more = []; bytes_are = sym (append-nil input); ended = λ some. (refl, refl) }

-- ---- what is undecided

-- no line can be cut yet
before_line : (input : List ℕ) → site_line input None ≡ None → IsUndecided input
before_line input none = (
  λ text report. let is = report.report.opening.cut_is in cc (none, is),
  λ bad. elim bad [ inl (fault, real, is) ↦ cc (none, is) | inr (line, is, no_site) ↦ cc (none, is) ],
  λ (fault, opening). let is = opening.cut_is in cc (none, is),
)

-- the site line was read
module _ (input line : List ℕ) (site : PlainSite) (cut : site_line input None ≡ Some (Ok line)) (is_site : IsSiteLine line site) where
  same_line : (line' : List ℕ) → site_line input None ≡ Some (Ok line') → line' ≡ line
  same_line line' is = cc

  -- behind it there is no whole lane, and no line that is no hello
  behind_line : ((text : List ℕ) (report : HasReport input None text) → report.report.opening.line ≡ line → ⊥)
      → ((lines : ℕ) (fault : HelloFault) → IsGreetingOf (drop (length line + 1) input) None (greets lines (Err fault)) → ⊥) → IsUndecided input
  behind_line no_report no_bad = (
    λ text report. no_report text report (same_line report.report.opening.line report.report.opening.cut_is),
    λ bad. elim bad [
      | inl (fault, real, is) ↦ cc (cut, is)
      | inr (line', is, none) ↦ none site (rw (same_line line' is) is_site)
    ],
    λ (fault, opening). no_bad opening.lines fault (rw (same_line opening.line opening.cut_is) at opening.begins),
  )

  -- the hello isn't whole yet
  before_hello : IsGreetingOf (drop (length line + 1) input) None None → IsUndecided input
  before_hello none =
      let no_greeting : (greeting : Greeting) → IsGreetingOf (drop (length line + 1) input) None (Some greeting) → ⊥ =
      λ greeting is. let same = greeting_once (drop (length line + 1) input) None None (Some greeting) none is in cc (same) in
      behind_line
      (λ text report same. no_greeting (record { lines = report.report.opening.lines; answer = Ok report.report.client }) (rw same at report.report.opening.begins))
      (λ lines fault is. no_greeting (record { lines = lines; answer = Err fault }) is)

  -- the lane behind the hello has no end yet
  before_end : (lines : ℕ) (client : List ℕ) (messages : List Costed) → IsGreetingOf (drop (length line + 1) input) None (greets lines (Ok client))
      → IsStreamOf (record { earlier = []; lines = lines; fault = None }) (drop (lane_place line lines input) input) None (record { messages = messages; end = None })
      → IsUndecided input
  before_end lines client messages begins none =
      let same_greeting : (lines' : ℕ) (said : Result (List ℕ) HelloFault) → IsGreetingOf (drop (length line + 1) input) None (greets lines' said)
      → greets lines (Ok client) ≡ greets lines' said =
      λ lines' said is. greeting_once (drop (length line + 1) input) None (greets lines (Ok client)) (greets lines' said) begins is in
      behind_line
      (λ text report same.
      let own = report.report in
      let count : own.opening.lines ≡ lines = sym (same_lines lines own.opening.lines (Ok client) (Ok own.client) (same_greeting own.opening.lines (Ok own.client) (rw same at own.opening.begins))) in
      let ends = end_once (record { earlier = []; lines = lines; fault = None }) (drop (lane_place line lines input) input) None (record { messages = messages; end = None })
      (record { messages = report.messages; end = Some report.end }) none (rw (same, count) at report.all) in
      cc (ends))
      (λ lines' fault is. let said = same_said lines lines' (Ok client) (Err fault) (same_greeting lines' (Err fault) is) in cc (said))

-- ---- each read was needed

pub line_needed : {R : Type 0} (old new : Reading R) → old ≡ fresh_lines old.first → ReadsWhile (NoLineYet max_site_bytes old.place) old new → ReadWhileUndecided new.answers
line_needed old new fresh reads =
    let from_none : ReadsWhile (NoLineYet max_site_bytes 0) (fresh_lines old.first) new = subst (λ l. ReadsWhile (NoLineYet max_site_bytes l.place) l new) fresh reads in
    λ n low high. before_line (bytes_of (take n new.answers)) (from_none.needed n low high)

-- the line that was cut of the bytes that were read is that of more bytes
pub line_on : (answers more : List Answer) (line : List ℕ) (ending ending' : Option LineFault) → site_line (bytes_of answers) ending ≡ Some (Ok line)
    → site_line (bytes_of (answers ++ more)) ending' ≡ Some (Ok line)
line_on answers more line ending ending' is =
    rw (bytes_of-append answers more) (cut_longer max_site_bytes (bytes_of answers) (bytes_of more) line ending ending' is)

module _ {R : Type 0} (lines : Reading R) (site : Site) (at_site : IsBehindSite lines site) where
  -- also of the lines read further
  pub line_later : {Undecided : List Answer → Type 0} (new : Reading R) → ReadsWhile Undecided lines new → site_line (input new) (ending_of new.answers) ≡ Some (Ok lines.line)
  line_later new reads = rw reads.answers (line_on lines.answers reads.more lines.line (ending_of lines.answers) (ending_of (lines.answers ++ reads.more)) at_site.cut_is)

  pub hello_needed : (new : Reading R) → ReadWhileUndecided lines.answers → ReadsWhile (NotGreeted lines.place) lines new → ReadWhileUndecided new.answers
  hello_needed new needed reads =
      made_then (λ earlier. IsUndecided (bytes_of earlier)) (NotGreeted lines.place) [] lines.answers new.answers reads.more reads.answers
      (λ rest none.
      before_hello (bytes_of (lines.answers ++ rest)) lines.line at_site.plain (line_on lines.answers rest lines.line (ending_of lines.answers) None at_site.cut_is)
      at_site.site_is (rw at_site.place at none))
      needed reads.needed

  -- the upload begins behind the site line
  module _ (upload : UploadState R) (begins : Begins lines upload) (answers more : List Answer) (ending : Option LineFault) (grown : answers ≡ upload.lines.answers ++ more) where
    pub opens : IsGreetingOf (drop (length lines.line + 1) (bytes_of answers)) ending (greets upload.lane.lines (Ok upload.client))
        × (upload.start ≡ lane_place lines.line upload.lane.lines (bytes_of answers))
    opens =
        let (still, place) = opens_stays (input upload.lines) (bytes_of more) (ending_of upload.lines.answers) ending lines.line upload.lane.lines upload.client
        (rw at_site.place at (begins.greets (input upload.lines) (ending_of upload.lines.answers) (goes_nowhere (input upload.lines) _))) in
        let bytes : bytes_of answers ≡ input upload.lines ++ bytes_of more = ap bytes_of grown ∙ bytes_of-append upload.lines.answers more in
        let start : upload.start ≡ lane_place lines.line upload.lane.lines (input upload.lines) = rw at_site.place at begins.behind in
        (rw bytes still, start ∙ sym place ∙ ap (lane_place lines.line upload.lane.lines) (sym bytes))

    abbrev pub opening : Opening (bytes_of answers) ending (Ok upload.client)
    opening = record {
      line = lines.line;
      cut_is = rw grown (line_on upload.lines.answers more lines.line (ending_of upload.lines.answers) ending (line_later upload.lines begins.reads));
      site = at_site.plain;
      site_is = at_site.site_is;
      lines = upload.lane.lines;
      begins = opens.0;
    }

    pub start_is : upload.start ≡ lane_place lines.line upload.lane.lines (bytes_of answers)
    start_is = opens.1

  pub lane_needed : (upload : UploadState R) (begins : Begins lines upload) (new : Reading R) → ReadWhileUndecided lines.answers → ReadsWhile (NotOver upload) upload.lines new
      → ReadWhileUndecided new.answers
  lane_needed upload begins new needed reads =
      made_then (λ earlier. IsUndecided (bytes_of earlier)) (NotOver upload) [] upload.lines.answers new.answers reads.more reads.answers
      (λ rest (messages, none).
      let begun = opening upload begins (upload.lines.answers ++ rest) rest None refl in
      before_end (bytes_of (upload.lines.answers ++ rest)) lines.line at_site.plain begun.cut_is at_site.site_is upload.lane.lines upload.client messages begun.begins
      (rw (begins.lane, start_is upload begins (upload.lines.answers ++ rest) rest None refl) at none))
      (hello_needed upload.lines needed begins.reads) reads.needed

-- What the next line that isn't blank does to a lane.
use Rattle.std.proofs.Common.{◌≡◌, ℕ, ◌+◌, ◌≤◌, List, [], ◌∷◌, ◌++◌, length, drop, Bool, true, false, not, is_some, Option, Some, None, Result, Ok, Err, IsSome, IfSome, OnOk, IfErr, refl, sym, subst, ap, ◌∙◌, arith, append-nil, length-append}
use Rattle.std.proofs.lemmas.Grind.{flat_map-append}
use Rattle.byte_streams.specs.Cutting.{cut, ending_of}
use Rattle.byte_streams.specs.Reading.{Reading, ReadsWhile, input, uncut_bytes, failures_told}
use Rattle.byte_streams.specs.declared.fault.LineFault.{LineFault}
use Rattle.byte_streams.specs.declared.fault.LineFault.TheVariants as line
use Rattle.byte_streams.proofs.CutLaws.{cut_is_short}
use Rattle.byte_streams.proofs.ReadingLaws.{reads_none, reads_where}
use Rattle.upload_reader.specs.Limits.{max_line_bytes}
use Rattle.upload_reader.specs.Message.{is_blank, line_said}
use Rattle.upload_reader.specs.Next.{given_by, ending_by, next_of, failed_reads, IfGot, IfOver, IsReal}
use Rattle.upload_reader.specs.Stream.{Costed, Stream, StreamStart, IsSaid, UnlessHad, IsStreamOf, BeginsWith, messages_in, message_in, message_said, said_end, next_number, line_end, stop_end, kind_of}
use Rattle.upload_reader.specs.Upload.{UploadState, lane_bytes, IsUntouched, GivesFirst, EndsBy, NothingMore}
use Rattle.upload_reader.specs.inside.Passed.{NextText}
use Rattle.upload_reader.specs.inside.Taken.{lane_of, upload_of, LaneTaken, fault_next, AnswersSaid}
use Rattle.upload_reader.specs.declared.ending.Ending.{Ending}
use Rattle.upload_reader.specs.declared.ending.Ending.TheVariants as ending
use Rattle.upload_reader.specs.declared.lane_fault.LaneEnd.{LaneEnd}
use Rattle.upload_reader.specs.declared.lane_fault.LaneEnd.TheVariants.{Fault}
use Rattle.upload_reader.specs.declared.lane_fault.LaneFault.{LaneFault}
use Rattle.upload_reader.specs.declared.line.Line.{Line}
use Rattle.upload_reader.specs.declared.line.Line.TheVariants as content
use Rattle.upload_reader.specs.declared.message.Message.{Message}
use Rattle.upload_reader.specs.declared.next.Next.{Next}
use Rattle.upload_reader.specs.declared.next.Next.TheVariants.{Got, Over, GaveUp}
use Rattle.upload_reader.specs.declared.progress.Progress.{Progress}
use Rattle.upload_reader.proofs.FrontLaws.{TakesFront, said_first, taken_unique}
use Rattle.upload_reader.proofs.FrontSteps.{takes_first, passed_more, ends_by_line, ends_by_fault, passed_none, lines_long}
use Rattle.upload_reader.proofs.Reach.{cut_one, no_line, cut_going, NotEnded, Reached, reach, again, unread}

module _ (lane : StreamStart) where
  skips : (before : List (List ℕ)) (line : List ℕ) → is_blank line ≡ true → line_end lane before line ≡ None
  unfolding line_end
  skips before line blank = rw blank refl

  ends_as : (before : List (List ℕ)) (line : List ℕ) (given : List Costed) (number : ℕ) → is_blank line ≡ false → given ≡ messages_in before → number ≡ next_number lane before
      → line_end lane before line ≡ said_end lane given number (line_said line)
  unfolding line_end
  ends_as before line given number text says count = rw (text, says, count) refl

messages_more : (front : List (List ℕ)) (line : List ℕ) (given more : List Costed) → given ≡ messages_in front → message_in line ≡ more → given ++ more ≡ messages_in (front ++ line ∷ [])
messages_more front line given more says is = rw (says, flat_map-append message_in front (line ∷ []), is, append-nil) refl

blank_says : (line : List ℕ) → is_blank line ≡ true → message_in line ≡ []
blank_says line blank = rw blank refl

-- ---- whether the lines had a fault before

module _ (lane : StreamStart) (bytes : List ℕ) (ending : Option LineFault) (stream : Stream) where
  pub is_stream : lane.fault ≡ None → IsSaid lane bytes ending stream → IsStreamOf lane bytes ending stream
  is_stream none said = subst (λ had. UnlessHad had lane stream (IsSaid lane bytes ending stream)) (sym none) said

  had_stream : (had : LineFault) → lane.fault ≡ Some had → stream ≡ record { messages = []; end = stop_end lane [] had } → IsStreamOf lane bytes ending stream
  had_stream had is same = subst (λ had. UnlessHad had lane stream (IsSaid lane bytes ending stream)) (sym is) same

-- the messages that were given are the first ones
pub gives_first : {R : Type 0} (upload : UploadState R) (count : ℕ) → LaneTaken upload count → GivesFirst upload
gives_first upload count stands more ending = by upload.lane.fault refl
  where
    by : (had : Option LineFault) → upload.lane.fault ≡ had → (stream : Stream) × IsStreamOf upload.lane (lane_bytes upload (input upload.lines ++ more)) ending stream × BeginsWith upload.given stream.messages
    by None is =
        let (front, end, said, extra, same) = takes_first max_line_bytes (line_end upload.lane) (stop_end upload.lane) upload.start stands.at (input upload.lines) stands.front stands.behind more ending in (
          record { messages = messages_in front; end = end },
          is_stream upload.lane _ ending _ is (record { front = front; taken = said; messages = refl }),
          rw (stands.says, same) (said_first message_in stands.front extra),
        )
    by (Some had) is = (record { messages = []; end = stop_end upload.lane [] had }, had_stream upload.lane _ ending _ had is refl, rw (stands.says, stands.had (rw is refl)) refl)

-- ---- a lane that begins

pub begins_taken : {R : Type 0} (client : List ℕ) (lines : Reading R) (p : Progress) (earlier : List Message) (number : ℕ) → lane_of p ≡ record { earlier = earlier; lines = number; fault = lines.fault }
    → p.given.items ≡ [] → p.lines ≡ number → number ≤ lines.place → LaneTaken (upload_of client lines p lines.place None) p.lines
begins_taken client lines p earlier number lane none is few = let same = ap (λ lane. lane.fault) lane in
    let first = ap (λ lane. lane.lines) lane in
    record {
      at = lines.place;
      front = [];
      behind = passed_none max_line_bytes (line_end (lane_of p)) (stop_end (lane_of p)) (input lines) lines.place;
      says = none;
      had = λ some. refl;
      numbered = omega (arith, first, few);
      here = λ going. (refl, omega (arith, first, is), sym same);
      ended = tt;
      real = tt;
      failures = λ calm. ap failures_told (sym same ∙ calm);
    }

-- one of which nothing was asked begins behind any other messages
pub begins_again : {R : Type 0} (client : List ℕ) (lines : Reading R) (p q : Progress) (start : ℕ) (over : Option Ending) (earlier : List Message) → LaneTaken (upload_of client lines p start over) p.lines
    → IsUntouched (upload_of client lines p start over) → lane_of q ≡ record (lane_of p) { earlier = earlier } → q.given.items ≡ [] → q.lines ≡ p.lines → LaneTaken (upload_of client lines q start None) q.lines
begins_again client lines p q start over earlier stands untouched lane given number =
    let (at, count, same) = stands.here (rw untouched.ending refl) in
    let place : lines.place ≡ start = untouched.place in
    let first : q.lines ≡ p.first_lines.value = omega (arith, number, at, count, lines_long stands.front, stands.behind.bytes, place) in
    subst (λ s. LaneTaken (upload_of client lines q s None) q.lines) place
    (begins_taken client lines q earlier p.first_lines.value (rw same lane) given first (omega (arith, stands.numbered, place)))

-- a fault in the place of a line tells of a failed read where it is one, and is real
fault_real : (number : ℕ) (fault : LineFault) → IfOver (fault_next number fault) IsReal
fault_real number line.NoMemory = tt
fault_real number fault = tt

fault_calm : (number : ℕ) (fault : LineFault) → failures_told (Some fault) ≡ failed_reads (ending_by (fault_next number fault))
fault_calm number line.NoMemory = refl
fault_calm number fault = refl

-- ---- what the next line does

module _ {R : Type 0} (client : List ℕ) (lines new : Reading R) (p : Progress) (start number : ℕ) (stands : LaneTaken (upload_of client lines p start None) p.lines) where
  abbrev lane : StreamStart
  lane = lane_of p

  abbrev upload : UploadState R
  upload = upload_of client lines p start None

  abbrev Says : List (List ℕ) → Type 0
  Says front = p.given.items ≡ messages_in front

  abbrev Reaches : Result (Unit {0}) LineFault → Type 0
  Reaches text = Reached (line_end lane) (stop_end lane) Says start lane.lines stands.front lines new number text

  reached : (text : Result (Unit {0}) LineFault) → NextText new number text p.lines lines → Reaches text
  reached text next = let (at, count, same) = stands.here refl in
      reach (line_end lane) (stop_end lane) Says start lane.lines stands.front lines new number text (skips lane)
      (λ before line is says. sym (append-nil p.given.items) ∙ messages_more before line p.given.items [] says (blank_says line is))
      p.lines lines stands.front (rw (← at) stands.behind) stands.says count (reads_none _ lines lines refl refl) refl (λ some. (refl, refl)) next

  lines_same : lines.fault ≡ lane.fault
  lines_same = (stands.here refl).2

  pub lane_unread : (text : Result (Unit {0}) LineFault) → NextText new number text p.lines lines → IsSome lines.fault → new ≡ lines
  lane_unread text next = unread (line_end lane) (stop_end lane) Says start lane.lines stands.front lines new number text (reached text next)

  had_same : (text : Result (Unit {0}) LineFault) → Reaches text → (had : LineFault) → lane.fault ≡ Some had → (text ≡ no_line had) × (new ≡ lines) × (number ≡ lane.lines + length stands.front + 1)
  had_same text r had is = again (line_end lane) (stop_end lane) Says start lane.lines stands.front lines new number text r had (lines_same ∙ is)

  pub lane_reads : (text : Result (Unit {0}) LineFault) → NextText new number text p.lines lines → ReadsWhile (NothingMore upload) lines new
  lane_reads text next = by lane.fault refl
    where
      by : (had : Option LineFault) → lane.fault ≡ had → ReadsWhile (NothingMore upload) lines new
      by None is = reads_where (NotEnded (line_end lane) (stop_end lane) Says start lane.lines stands.front lines new number text) (NothingMore upload) lines new
          (λ answers nothing. is_stream lane _ None _ is (record { front = nothing.0; taken = nothing.1; messages = nothing.2 })) (reached text next).reads
      by (Some had) is = let same = (had_same text (reached text next) had is).1 in reads_none (NothingMore upload) lines new (ap (λ lines. lines.first) same) (ap (λ lines. lines.answers) same)

  -- the lane ended
  over_by : {text : Result (Unit {0}) LineFault} (r : Reaches text) (e : Ending) (count : ℕ) → IfOver (next_of e) (EndsBy (record upload { lines = new })) → IfOver (next_of e) IsReal
      → failures_told new.fault ≡ failed_reads (Some e) → LaneTaken (record upload { lines = new; ending = Some e }) count
  over_by r e count ends real calm = record {
    at = r.now.place;
    front = r.front;
    behind = r.behind;
    says = r.says;
    had = λ some. (r.same (rw lines_same some)).1 ∙ stands.had some;
    numbered = stands.numbered;
    here = λ never. absurd (cc);
    ended = ends;
    real = real;
    failures = λ none. calm;
  }

  module _ (r : Reaches cut_one) where
    none : lane.fault ≡ None
    none = sym (r.fault ∙ lines_same) ∙ cut_going r.now new r.moves

    cut_is : cut max_line_bytes (drop r.now.place (input new)) (ending_of new.answers) ≡ Some (Ok new.line)
    cut_is = r.moves.tells (rw (r.fault ∙ lines_same ∙ none) refl)

    by_line : (count : ℕ) (result : Next) → IfGot result (λ _ _. count ≡ number) → AnswersSaid p number (line_said new.line) (length new.line) result
        → LaneTaken (record upload { lines = new; given = p.given.items ++ given_by result; ending = ending_by result }) count
    by_line count (Got message price) numbered (says, fits) = record {
      at = new.place;
      front = r.front ++ new.line ∷ [];
      behind = rw r.moves.place (passed_more max_line_bytes (line_end lane) (stop_end lane) start r.now.place (input new) r.front r.behind new.line (ending_of new.answers) cut_is
          (ends_as lane r.front new.line p.given.items number r.text r.says r.number_is ∙ fits));
      says = messages_more r.front new.line p.given.items _ r.says (rw r.text says);
      had = λ some. let never = rw none at some in absurd (cc);
      numbered = stands.numbered;
      here = λ still. (refl, omega (arith, numbered, r.number_is, length-append r.front (new.line ∷ [])), r.moves.fault ∙ sym none);
      ended = tt;
      real = tt;
      failures = λ none. rw r.moves.fault refl;
    }
    by_line count (Over end) numbered (says, own) = rw append-nil
        (over_by r (ending.Over end) count (λ input' ending' goes. is_stream lane _ ending' _ none (record {
          front = r.front;
          taken = ends_by_line max_line_bytes (line_end lane) (stop_end lane) start r.now.place (input new) r.front r.behind new.line (ending_of new.answers) end cut_is
              (ends_as lane r.front new.line p.given.items number r.text r.says r.number_is ∙ says) input' ending' goes;
          messages = r.says;
        })) own.0 (rw r.moves.fault (sym own.1)))
    by_line count GaveUp numbered says = rw append-nil (over_by r ending.GaveUp count tt tt (rw r.moves.fault refl))

  stops : (fault : LineFault) (kind : LaneFault) → kind_of fault ≡ Some kind → (r : Reaches (no_line fault)) → (lane.fault ≡ None → cut max_line_bytes (drop r.now.place (input new)) (ending_of new.answers) ≡ Some (Err fault))
      → EndsBy (record upload { lines = new }) (Fault number kind)
  stops fault kind of r cut_is input' ending' goes = by lane.fault refl
    where
      by : (had : Option LineFault) → lane.fault ≡ had → IsStreamOf lane (drop start input') ending' (record { messages = p.given.items; end = Some (Fault number kind) })
      by None is = is_stream lane _ ending' _ is (record {
        front = r.front;
        taken = ends_by_fault max_line_bytes (line_end lane) (stop_end lane) start r.now.place (input new) r.front r.behind (ending_of new.answers) fault _ (cut_is is) (rw (of, ← r.number_is) refl) input' ending' goes;
        messages = r.says;
      })
      by (Some had) is =
          let (told, _, count) = had_same (no_line fault) r had is in
          let same : had ≡ fault = cc told in
          let front = stands.had (rw is refl) in
          had_stream lane _ ending' _ had is (rw (stands.says, front, same, of) (ap (λ n. record { messages = []; end = Some (Fault n kind) }) (count ∙ ap (λ front. lane.lines + length front + 1) front)))

  by_fault : (count : ℕ) (fault : LineFault) → Reaches (no_line fault)
      → LaneTaken (record upload { lines = new; given = p.given.items ++ given_by (fault_next number fault); ending = ending_by (fault_next number fault) }) count
  by_fault count line.NoMemory r = rw append-nil (over_by r ending.GaveUp count tt tt (rw r.moves.fault refl))
  by_fault count fault r = rw append-nil (over_by r _ count (stops fault _ refl r (λ none. r.moves.tells (rw (r.fault ∙ lines_same ∙ none) refl))) (fault_real number fault) (rw r.moves.fault (fault_calm number fault)))

  -- What is behind the answer.
  pub answered : (text : Result (Unit {0}) LineFault) → NextText new number text p.lines lines → (q : Progress) (result : Next) → lane_of q ≡ lane → q.given.items ≡ p.given.items ++ given_by result
      → IfGot result (λ _ _. q.lines ≡ number) → OnOk text (AnswersSaid p number (line_said new.line) (length new.line) result) → IfErr text (λ fault. result ≡ fault_next number fault)
      → LaneTaken (upload_of client new q start (ending_by result)) q.lines
  answered (Ok tt) next q result same given numbered says stop = rw (same, given) (by_line (reached cut_one next) q.lines result numbered says)
  answered (Err fault) next q result same given numbered says stop = rw (same, given, stop) (by_fault q.lines fault (reached (no_line fault) next))

  pub text_plain : (text : Result (Unit {0}) LineFault) → NextText new number text p.lines lines → OnOk text (is_blank new.line ≡ false)
  text_plain text next = (reached text next).text

  pub text_short : (text : Result (Unit {0}) LineFault) → NextText new number text p.lines lines → OnOk text (length new.line ≤ max_line_bytes)
  text_short (Ok tt) next = let r = reached cut_one next in cut_is_short max_line_bytes r.now.place (input new) new.line (ending_of new.answers) (cut_is r)
  text_short (Err fault) next = tt

-- an answer that ends the upload
pub over_of : (P : LaneEnd → Type 0) (result : Next) → IfSome (ending_by result) (λ ending. IfOver (next_of ending) P) → IfOver result P
over_of P (Got message price) over = tt
over_of P (Over end) over = over
over_of P GaveUp over = tt

-- there are at most as many lines as bytes
pub few_taken : {R : Type 0} (upload : UploadState R) (count : ℕ) → LaneTaken upload count → upload.ending ≡ None → count ≤ upload.lines.place
few_taken upload count stands going =
    let (at, number, _) = stands.here (rw going refl) in omega (arith, at, number, lines_long stands.front, stands.behind.bytes, stands.numbered)

-- ---- a line that was read

-- what doesn't end the lane is a message
one_said : (lane : StreamStart) (given : List Costed) (number cost : ℕ) (said : Result Line LaneFault) → said_end lane given number said ≡ None → length (message_said cost said) ≡ 1
one_said lane given number cost (Ok (content.Says message)) goes = refl
one_said lane given number cost (Ok content.Bye) goes = cc
one_said lane given number cost (Err kind) goes = cc

pub none_left : {A : Type 0} (o : Option A) → is_some o ≡ false → o ≡ None
none_left None is = refl
none_left (Some x) is = cc

pub not_blank : (found blank : Bool) → found ≡ blank → not found ≡ true → blank ≡ false
not_blank true blank same is = cc
not_blank false blank same is = sym same

-- Where a line was read that isn't blank, that tells of a further message or of an end.
module _ {R : Type 0} (upload : UploadState R) (count : ℕ) (stands : LaneTaken upload count) (going : upload.ending ≡ None) (calm : upload.lines.fault ≡ None)
    (line : List ℕ) (is : cut max_line_bytes (uncut_bytes upload.lines) None ≡ Some (Ok line)) (text : is_blank line ≡ false) where
  abbrev bytes : List ℕ
  bytes = lane_bytes upload (input upload.lines)

  here_cut : cut max_line_bytes (drop stands.at (input upload.lines)) None ≡ Some (Ok line)
  here_cut = let (place, _, _) = stands.here (rw going refl) in rw place is

  -- the lane goes on behind the line
  beyond : line_end upload.lane stands.front line ≡ None → TakesFront max_line_bytes (line_end upload.lane) (stop_end upload.lane) bytes None (stands.front ++ line ∷ [])
  beyond goes = subst (λ all. TakesFront max_line_bytes (line_end upload.lane) (stop_end upload.lane) (drop upload.start all) None (stands.front ++ line ∷ [])) (append-nil (input upload.lines))
      (takes_first max_line_bytes (line_end upload.lane) (stop_end upload.lane) upload.start (stands.at + length line + 1) (input upload.lines) (stands.front ++ line ∷ [])
      (passed_more max_line_bytes (line_end upload.lane) (stop_end upload.lane) upload.start stands.at (input upload.lines) stands.front stands.behind line None here_cut goes) [] None)

  -- and says a message there
  one_more : line_end upload.lane stands.front line ≡ None → length (message_in line) ≡ 1
  one_more goes = rw text (one_said upload.lane upload.given (next_number upload.lane stands.front) (length line) (line_said line)
      (sym (ends_as upload.lane stands.front line upload.given (next_number upload.lane stands.front) text stands.says refl) ∙ goes))

  not_said : IsSaid upload.lane bytes None (record { messages = upload.given; end = None }) → ⊥
  not_said said = by (line_end upload.lane stands.front line) refl
    where
      by : (end : Option LaneEnd) → line_end upload.lane stands.front line ≡ end → ⊥
      by (Some e) ends =
          let (_, never) = taken_unique max_line_bytes (line_end upload.lane) (stop_end upload.lane) bytes None stands.front said.front (Some e) None
          (ends_by_line max_line_bytes (line_end upload.lane) (stop_end upload.lane) upload.start stands.at (input upload.lines) stands.front stands.behind line None e here_cut ends
          (input upload.lines) None (record { more = []; bytes_are = sym (append-nil (input upload.lines)); ended = λ some. absurd (cc) })) said.taken in cc
      by None goes =
          let (front, end, taken, extra, longer) = beyond goes in
          let (same, _) = taken_unique max_line_bytes (line_end upload.lane) (stop_end upload.lane) bytes None front said.front end None taken said.taken in
          let all : upload.given ≡ messages_in ((stands.front ++ line ∷ []) ++ extra) = said.messages ∙ ap messages_in (sym same ∙ longer) in
          let some : length (upload.given ++ message_in line) ≡ length (messages_in (stands.front ++ line ∷ [])) =
          ap length (messages_more stands.front line upload.given (message_in line) stands.says refl) in
          omega (
            arith,
            ap length all,
            ap length (flat_map-append message_in (stands.front ++ line ∷ []) extra),
            length-append (messages_in (stands.front ++ line ∷ [])) (messages_in extra),
            some,
            length-append upload.given (message_in line),
            one_more goes,
          )

  pub more_told : NothingMore upload upload.lines.answers → ⊥
  more_told nothing =
      let (_, _, same) = stands.here (rw going refl) in
      let none : upload.lane.fault ≡ None = sym same ∙ calm in
      not_said (subst (λ had. UnlessHad had upload.lane (record { messages = upload.given; end = None }) (IsSaid upload.lane bytes None (record { messages = upload.given; end = None }))) none nothing)

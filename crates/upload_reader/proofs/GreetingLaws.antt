-- How an upload begins, by the first line that isn't blank.
use Rattle.std.proofs.Common.{◌≡◌, ◌≢◌, ℕ, ◌+◌, ◌≤◌, List, [], ◌∷◌, ◌++◌, length, drop, take, true, false, Option, Some, None, Result, Ok, Err, IfSome, refl, sym, ap, ◌∙◌, arith, append-nil, length-append}
use Rattle.std.proofs.Math.Seq.{take-append_seam}
use Rattle.byte_streams.specs.CompleteLines.{complete_lines}
use Rattle.byte_streams.specs.Cutting.{cut, ending_of}
use Rattle.byte_streams.specs.Reading.{Reading, ReadsWhile, input}
use Rattle.byte_streams.specs.declared.fault.LineFault.{LineFault}
use Rattle.byte_streams.specs.declared.fault.LineFault.TheVariants as line
use Rattle.byte_streams.proofs.ReadingLaws.{reads_none, reads_where}
use Rattle.upload_reader.specs.Front.{bytes_of_lines}
use Rattle.upload_reader.specs.Greeting.{greeting_by, no_greeting, lines_length, hello_fault_of}
use Rattle.upload_reader.specs.Hello.{hello_said}
use Rattle.upload_reader.specs.Limits.{max_line_bytes}
use Rattle.upload_reader.specs.Message.{is_blank}
use Rattle.upload_reader.specs.Upload.{Greets, NotGreeted, upload_behind, Begins, Refuses}
use Rattle.upload_reader.specs.inside.Passed.{NextText}
use Rattle.upload_reader.specs.declared.hello_fault.HelloFault.{HelloFault}
use Rattle.upload_reader.specs.declared.hello_fault.HelloFault.TheVariants.{NoMemory}
use Rattle.upload_reader.proofs.FrontSteps.{complete_more, bytes_more, ends_by_line, ends_by_fault, passed_none, lines_long}
use Rattle.upload_reader.proofs.HelloFaults.{line_of, line_of_told, none_told}
use Rattle.upload_reader.proofs.Reach.{cut_one, no_line, cut_going, NotEnded, Reached, reach, again}

skips : (before : List (List ℕ)) (line : List ℕ) → is_blank line ≡ true → greeting_by before line ≡ None
unfolding greeting_by
skips before line blank = rw blank refl

greets_by : (before : List (List ℕ)) (line : List ℕ) (number : ℕ) (answer : Result (List ℕ) HelloFault) → is_blank line ≡ false → length before + 1 ≡ number → hello_said number line ≡ answer
    → greeting_by before line ≡ Some (record { lines = number; answer = answer })
unfolding greeting_by
greets_by before line number answer text count is = rw (text, count, ← is) refl

-- so many bytes have the first lines
counted : (input : List ℕ) (from to number : ℕ) (lines rest : List (List ℕ)) → complete_lines (drop from (input ++ [])) ≡ lines ++ rest → to ≡ from + length (bytes_of_lines lines) → length lines ≡ number
    → to ≡ from + lines_length number (drop from input)
counted input from to number lines rest split bytes count =
    let first : take (length lines) (complete_lines (drop from input)) ≡ lines =
    ap (λ bytes. take (length lines) (complete_lines (drop from bytes))) (sym (append-nil input)) ∙ ap (take (length lines)) split ∙ take-append_seam lines rest in
    rw (← count) (bytes ∙ ap (λ lines. from + length (bytes_of_lines lines)) (sym first))

module _ {R : Type 0} (old new : Reading R) (number : ℕ) where
  abbrev Reaches : Result (Unit {0}) LineFault → Type 0
  Reaches result = Reached greeting_by no_greeting (λ _. Unit {0}) old.place 0 [] old new number result

  reached : (result : Result (Unit {0}) LineFault) → NextText new number result 0 old → Reaches result
  reached result next = reach greeting_by no_greeting (λ _. Unit {0}) old.place 0 [] old new number result skips (λ before line is says. tt) 0 old []
      (passed_none max_line_bytes greeting_by no_greeting (input old) old.place) tt refl (reads_none _ old old refl refl) refl (λ some. (refl, refl)) next

  greets_reads : (result : Result (Unit {0}) LineFault) → Reaches result → ReadsWhile (NotGreeted old.place) old new
  greets_reads result r = reads_where (NotEnded greeting_by no_greeting (λ _. Unit {0}) old.place 0 [] old new number result) (NotGreeted old.place) old new (λ answers nothing. (nothing.0, nothing.1)) r.reads

  -- ---- a line that isn't blank

  module _ (next : NextText new number cut_one 0 old) where
    r : Reaches cut_one
    r = reached cut_one next

    going : old.fault ≡ None
    going = sym r.fault ∙ cut_going r.now new r.moves

    cut_is : cut max_line_bytes (drop r.now.place (input new)) (ending_of new.answers) ≡ Some (Ok new.line)
    cut_is = r.moves.tells (rw (r.fault ∙ going) refl)

    greets_line : (answer : Result (List ℕ) HelloFault) → hello_said number new.line ≡ answer → Greets old.place new (record { lines = number; answer = answer })
    greets_line answer is input' ending' goes = (
      r.front,
      ends_by_line max_line_bytes greeting_by no_greeting old.place r.now.place (input new) r.front r.behind new.line (ending_of new.answers) (record { lines = number; answer = answer }) cut_is
          (greets_by r.front new.line number answer r.text (omega (arith, r.number_is)) is) input' ending' goes,
    )

    behind : new.place ≡ old.place + lines_length number (drop old.place (input new))
    behind = rw r.moves.place
        (counted (input new) old.place _ number (r.front ++ new.line ∷ []) _ (complete_more max_line_bytes old.place r.now.place (input new) new.line (ending_of new.answers) cut_is r.front [] (r.behind.complete []))
        (bytes_more max_line_bytes old.place r.now.place (input new) new.line (ending_of new.answers) cut_is r.front r.behind.bytes) (omega (arith, length-append r.front (new.line ∷ []), r.number_is)))

    pub begins_by : (client : List ℕ) → hello_said number new.line ≡ Ok client → Begins old (upload_behind client new [] number)
    begins_by client is = record {
      going = going;
      reads = greets_reads cut_one r;
      greets = greets_line (Ok client) is;
      lane = ap (λ fault. record { earlier = []; lines = number; fault = fault }) r.moves.fault;
      start = refl;
      behind = behind;
      fresh = (refl, refl);
    }

    pub hello_few : number ≤ new.place
    hello_few = omega (arith, lines_long r.front, r.behind.bytes, r.moves.place, r.number_is)

    pub refused_by : (fault : HelloFault) → (fault ≢ NoMemory → hello_said number new.line ≡ Err fault) → Refuses old new fault
    refused_by fault says = record {
      reads = greets_reads cut_one r;
      lines = number;
      greets = λ none some. greets_line (Err fault) (says some);
      place = λ none some. behind;
      behind = omega (arith, r.behind.bytes, r.moves.place);
      leaves = rw r.moves.fault tt;
      told = λ at had some is. absurd (some (sym (line_of_told at had) ∙ ap line_of (sym is) ∙ none_told number new.line fault says));
      again = rw going tt;
    }

  -- ---- no line

  greets_cut : (fault : LineFault) (r : Reaches (no_line fault)) → old.fault ≡ None → hello_fault_of number fault ≢ NoMemory → Greets old.place new (record { lines = length r.front; answer = Err (hello_fault_of number fault) })
  greets_cut line.NoMemory r none some = absurd (some refl)
  greets_cut fault r none some = let count : number ≡ length r.front + 1 = omega (arith, r.number_is) in λ input' ending' goes. (
    r.front,
    ends_by_fault max_line_bytes greeting_by no_greeting old.place r.now.place (input new) r.front r.behind (ending_of new.answers) fault _ (r.moves.tells (rw (r.fault ∙ none) refl)) (rw count refl) input' ending' goes,
  )

  again_by : (fault : LineFault) → Reaches (no_line fault) → (had : Option LineFault) → old.fault ≡ had → IfSome had (λ had. (hello_fault_of number fault ≡ hello_fault_of 1 had) × (new ≡ old))
  again_by fault r None is = tt
  again_by fault r (Some had) is =
      let (told, same, first) = again greeting_by no_greeting (λ _. Unit {0}) old.place 0 [] old new number (no_line fault) r had is in
      let same_fault : fault ≡ had = cc told in (rw (same_fault, first) refl, same)

  leaves_by : (fault : LineFault) (left : Option LineFault) (n : ℕ) → left ≡ Some fault → number ≡ n → IfSome left (λ had. hello_fault_of number fault ≡ hello_fault_of n had)
  leaves_by fault left n is same = rw (is, same) refl

  pub refused_cut : (fault : LineFault) → NextText new number (no_line fault) 0 old → Refuses old new (hello_fault_of number fault)
  refused_cut fault next = let r = reached (no_line fault) next in record {
    reads = greets_reads (no_line fault) r;
    lines = length r.front;
    greets = greets_cut fault r;
    place = λ none some. r.moves.place ∙ counted (input new) old.place r.now.place _ r.front _ (r.behind.complete []) r.behind.bytes refl;
    behind = omega (arith, r.moves.place, r.behind.bytes);
    leaves = leaves_by fault new.fault (length r.front + 1) r.moves.fault (omega (arith, r.number_is));
    told = λ at had some is. r.moves.fault ∙ ap Some (sym (line_of_told number fault) ∙ ap line_of is ∙ line_of_told at had);
    again = again_by fault r old.fault refl;
  }

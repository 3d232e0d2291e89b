-- Lines taken in turn, as one after another is cut from an input.
use Rattle.std.proofs.Common.{◌≡◌, ℕ, ◌+◌, ◌<◌, ◌≤◌, List, [], ◌∷◌, ◌++◌, length, drop, Option, Some, None, Ok, Err, inl, inr, refl, sym, subst, ◌∙◌, ap, arith, append-nil, append_assoc, length-append, length-drop}
use Rattle.std.specs.Prelude.{IsSome, option_and_then}
use Rattle.std.proofs.lemmas.Bool.{cases_lt}
use Rattle.std.proofs.lemmas.Grind.{flat_map-append}
use Rattle.byte_streams.specs.CompleteLines.{complete_lines, unended_line}
use Rattle.byte_streams.specs.Cutting.{cut, line_length}
use Rattle.byte_streams.specs.GoesOn.{GoesOn}
use Rattle.byte_streams.specs.declared.fault.LineFault.{LineFault}
use Rattle.byte_streams.specs.declared.fault.LineFault.TheVariants.{LineTooLong}
use Rattle.byte_streams.proofs.CutLaws.{cut_is_short, lines_from, unended_from, first_is_long, no_lines, all_unended}
use Rattle.byte_streams.proofs.LineLaws.{IsLong, unended_all}
use Rattle.upload_reader.specs.Front.{line_ends, LinesEndBy, AreLinesTaken, bytes_of_lines}
use Rattle.upload_reader.specs.inside.Passed.{PassedBetween}
use Rattle.upload_reader.proofs.FrontLaws.{TakesFront, passes_none, passes_more, taken_exists}
use Rattle.upload_reader.proofs.Uncut.{past, within, too_many, too_few, waits}

module _ {E : Type 0} (limit : ℕ) (judge : List (List ℕ) → List ℕ → Option E) (stop : List (List ℕ) → LineFault → Option E)
    (front : List (List ℕ)) where
  -- how the bytes behind the front end it
  abbrev Ended : List ℕ → Option LineFault → Option E → Type 0
  Ended bytes ending end = LinesEndBy limit judge stop front (complete_lines bytes) (unended_line bytes) ending end

  long_first : (lines : List (List ℕ)) (rest : List ℕ) (ending : Option LineFault) (e : E) → stop front LineTooLong ≡ Some e → IsLong limit lines
      → (lines ≡ [] → limit < length rest) → LinesEndBy limit judge stop front lines rest ending (Some e)
  long_first [] rest ending e said first all = sym (past limit (length rest) (stop front LineTooLong) (option_and_then (stop front) ending) (all refl) ∙ said)
  long_first (line ∷ lines) rest ending e said first all = (sym (past limit (length line) (stop front LineTooLong) (judge front line) first ∙ said), refl)

  -- no line, and no more bytes than the limit: the ending decides
  no_line : (bytes : List ℕ) (ending : Option LineFault) (end : Option E) → line_length limit bytes ≡ None → length bytes ≤ limit
      → option_and_then (stop front) ending ≡ end → Ended bytes ending end
  no_line bytes ending end none few is =
      rw (no_lines limit bytes none few, all_unended limit bytes none few)
      (sym (within limit (length bytes) (stop front LineTooLong) (option_and_then (stop front) ending) few ∙ is))

  -- a fault in the place of a line stays as the input goes on: more bytes than the limit and no line end in them, or how the input ended
  fault_by : (at : ℕ) (input more : List ℕ) (ending ending' : Option LineFault) (fault : LineFault) (e : E) → cut limit (drop at input) ending ≡ Some (Err fault)
      → stop front fault ≡ Some e → (IsSome ending → (more ≡ []) × (ending' ≡ ending)) → Ended (drop at (input ++ more)) ending' (Some e)
  fault_by at input more ending ending' fault e is said ended = elim (cases_lt limit (length (drop at input))) [
    | inl many ↦
        let (none, same) = too_many limit (drop at input) ending fault is many in
        let bytes = drop at (input ++ more) in
        long_first (complete_lines bytes) (unended_line bytes) ending' e (rw same at said) (first_is_long limit at input more none many)
        (λ nothing. omega (arith, ap length (unended_all bytes nothing), many, length-drop at input, length-drop at (input ++ more), length-append input more))
    | inr few ↦
        let (none, ends) = too_few limit (drop at input) ending fault is few in
        let (no_more, same) = ended (subst IsSome (sym ends) refl) in
        rw (no_more, append-nil, same, ends) (no_line (drop at input) (Some fault) (Some e) none few said)
  ]

-- ---- a line more, behind a front that stands before `at`

module _ (limit start at : ℕ) (input line : List ℕ) (ending : Option LineFault) (is : cut limit (drop at input) ending ≡ Some (Ok line)) (front : List (List ℕ)) where
  pub complete_more : (more : List ℕ) → complete_lines (drop start (input ++ more)) ≡ front ++ complete_lines (drop at (input ++ more))
      → complete_lines (drop start (input ++ more)) ≡ (front ++ line ∷ []) ++ complete_lines (drop (at + length line + 1) (input ++ more))
  complete_more more split = split ∙ ap (λ lines. front ++ lines) (lines_from limit at input line more ending is) ∙ sym (append_assoc front (line ∷ []) _)

  pub bytes_more : at ≡ start + length (bytes_of_lines front) → at + length line + 1 ≡ start + length (bytes_of_lines (front ++ line ∷ []))
  bytes_more bytes =
      let one : List ℕ = (line ++ 10 ∷ []) ++ [] in
      omega (arith, bytes, ap length (flat_map-append (λ line. line ++ 10 ∷ []) front (line ∷ [])), length-append (bytes_of_lines front) one, length-append (line ++ 10 ∷ []) [], length-append line (10 ∷ []))

module _ {E : Type 0} (limit : ℕ) (judge : List (List ℕ) → List ℕ → Option E) (stop : List (List ℕ) → LineFault → Option E)
    (start at : ℕ) (input : List ℕ) (front : List (List ℕ)) (behind : PassedBetween limit judge stop input start at front) where
  taken_by : (more : List ℕ) (ending : Option LineFault) (end : Option E) → Ended limit judge stop front (drop at (input ++ more)) ending end
      → AreLinesTaken limit judge stop (drop start (input ++ more)) ending front end
  taken_by more ending end by = record {
    lines = complete_lines (drop at (input ++ more));
    split = behind.complete more;
    passes = behind.passes;
    ends_by = rw (behind.rest more) by;
  }

  -- What is taken begins with it, however the input goes on.
  pub takes_first : (more : List ℕ) (ending : Option LineFault) → TakesFront limit judge stop (drop start (input ++ more)) ending front
  takes_first more ending =
      taken_exists limit judge stop (drop start (input ++ more)) ending front (complete_lines (drop at (input ++ more))) behind.passes (behind.complete more)

  -- It stays so as the input goes on.
  pub passed_longer : (more : List ℕ) → PassedBetween limit judge stop (input ++ more) start at front
  passed_longer more = record {
    complete = λ later. rw (append_assoc input more later) (behind.complete (more ++ later));
    rest = λ later. rw (append_assoc input more later) (behind.rest (more ++ later));
    bytes = behind.bytes;
    passes = behind.passes;
  }

  -- A line that was cut and doesn't end it is one more.
  pub passed_more : (line : List ℕ) (ending : Option LineFault) → cut limit (drop at input) ending ≡ Some (Ok line) → judge front line ≡ None
      → PassedBetween limit judge stop input start (at + length line + 1) (front ++ line ∷ [])
  passed_more line ending is none = record {
    complete = λ more. complete_more limit start at input line ending is front more (behind.complete more);
    rest = λ more. behind.rest more ∙ unended_from limit at input line more ending is;
    bytes = bytes_more limit start at input line ending is front behind.bytes;
    passes = passes_more limit judge stop front line behind.passes
        (within limit (length line) (stop front LineTooLong) (judge front line) (cut_is_short limit at input line ending is) ∙ none);
  }

  -- A line that was cut and ends it does so however the input goes on.
  pub ends_by_line : (line : List ℕ) (ending : Option LineFault) (e : E) → cut limit (drop at input) ending ≡ Some (Ok line)
      → judge front line ≡ Some e → (input' : List ℕ) (ending' : Option LineFault) → GoesOn input input' ending ending'
      → AreLinesTaken limit judge stop (drop start input') ending' front (Some e)
  ends_by_line line ending e is said input' ending' goes = let few = cut_is_short limit at input line ending is in
      let by : (Some e ≡ line_ends limit judge stop front line) × IsSome (Some e) =
      (sym (within limit (length line) (stop front LineTooLong) (judge front line) few ∙ said), refl) in
      rw (goes.bytes_are) (taken_by goes.more ending' (Some e) (rw (lines_from limit at input line goes.more ending is) by))

  -- A fault in the place of a line that ends it does so however the input goes on.
  pub ends_by_fault : (ending : Option LineFault) (fault : LineFault) (e : E) → cut limit (drop at input) ending ≡ Some (Err fault)
      → stop front fault ≡ Some e → (input' : List ℕ) (ending' : Option LineFault) → GoesOn input input' ending ending'
      → AreLinesTaken limit judge stop (drop start input') ending' front (Some e)
  ends_by_fault ending fault e is said input' ending' goes =
      rw (goes.bytes_are) (taken_by goes.more ending' (Some e) (fault_by limit judge stop front at input goes.more ending ending' fault e is said goes.ended))

  -- Where nothing can be cut yet, nothing has ended it.
  pub none_yet : cut limit (drop at input) None ≡ None → AreLinesTaken limit judge stop (drop start input) None front None
  none_yet is = let (none, few) = waits limit (drop at input) is in
      let same : input ++ [] ≡ input = append-nil input in
      rw (← same) (taken_by [] None None (rw same (no_line limit judge stop front (drop at input) None None none few refl)))

-- From a place to itself there is no line.
pub passed_none : {E : Type 0} (limit : ℕ) (judge : List (List ℕ) → List ℕ → Option E) (stop : List (List ℕ) → LineFault → Option E) (input : List ℕ) (at : ℕ) → PassedBetween limit judge stop input at at []
passed_none limit judge stop input at = record { complete = λ more. refl; rest = λ more. refl; bytes = omega arith; passes = passes_none limit judge stop }

-- a line has at least its line end
pub lines_long : (lines : List (List ℕ)) → length lines ≤ length (bytes_of_lines lines)
lines_long [] = omega arith
lines_long (line ∷ lines) = omega (arith, lines_long lines, length-append (line ++ 10 ∷ []) (bytes_of_lines lines), length-append line (10 ∷ []))

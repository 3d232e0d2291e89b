-- The lines of a site file, as one after another is cut from it.
use Rattle.std.proofs.Common.{◌≡◌, ◌≢◌, ℕ, ◌+◌, List, [], ◌∷◌, ◌++◌, length, drop, Option, Some, None, Ok, Err, refl, sym, ◌∙◌, append-nil, inl, inr, ◌⊎◌}
use Rattle.std.proofs.lemmas.Bool.{cases_lt}
use Rattle.byte_streams.specs.Answers.{Answer, bytes_of}
use Rattle.byte_streams.specs.CompleteLines.{complete_lines, unended_line}
use Rattle.byte_streams.specs.Cutting.{cut, ending_of}
use Rattle.byte_streams.specs.GoesOn.{GoesOn}
use Rattle.byte_streams.specs.Reading.{Reading, ReadsWhile, NoLineYet, Advances, input, uncut_bytes}
use Rattle.byte_streams.specs.declared.fault.LineFault.{LineFault}
use Rattle.byte_streams.specs.declared.fault.LineFault.TheVariants as line
use Rattle.byte_streams.proofs.CutLaws.{cut_is_short, all_unended}
use Rattle.byte_streams.proofs.ReadingLaws.{bytes_of-append, reads_then}
use Rattle.upload_reader.specs.inside.Passed.{PassedBetween}
use Rattle.upload_reader.proofs.FrontSteps.{passed_longer, passed_more, ends_by_line, ends_by_fault, none_yet}
use Rattle.upload_reader.proofs.Uncut.{too_many, too_few}
use Rattle.site_file.specs.SiteFile.{max_file_line, IsShort, wrong_behind, none_behind, FileIsUndecided, HasWrong}
use Rattle.site_file.specs.declared.wrong.FileWrongKind.TheVariants.{NoLine, Says}
use Rattle.site_file.specs.declared.wrong.LineWrong.{LineWrong}

-- these lines stand before that place, and none of them is wrong
abbrev pub AreBefore : {R : Type 0} → Reading R → ℕ → List (List ℕ) → Type 0
AreBefore lines at front = PassedBetween max_file_line wrong_behind none_behind (input lines) 0 at front

goes_nowhere : (bytes : List ℕ) (ending : Option LineFault) → GoesOn bytes bytes ending ending
goes_nowhere bytes ending = record { more = []; bytes_are = sym (append-nil bytes); ended = λ some. (refl, refl) }

module _ {R : Type 0} (old now : Reading R) (front : List (List ℕ)) (before : AreBefore old old.place front) (going : old.fault ≡ None) where
  further : (more : List Answer) → now.answers ≡ old.answers ++ more → AreBefore now old.place front
  further more grown = rw (grown, bytes_of-append old.answers more) (passed_longer max_file_line wrong_behind none_behind 0 old.place (input old) front before (bytes_of more))

  pub reads_on : (first : Reading R) → ReadsWhile FileIsUndecided first old → ReadsWhile (NoLineYet max_file_line old.place) old now → ReadsWhile FileIsUndecided first now
  reads_on first earlier then = reads_then FileIsUndecided (NoLineYet max_file_line old.place) first old now
      (λ rest none. (
        front,
        none_yet max_file_line wrong_behind none_behind 0 old.place (bytes_of (old.answers ++ rest)) front
            (rw (bytes_of-append old.answers rest) (passed_longer max_file_line wrong_behind none_behind 0 old.place (input old) front before (bytes_of rest))) none,
      ))
      earlier then

  -- ---- a line more

  module _ (moves : Advances {A = Unit {0}} max_file_line old now (Ok tt)) where
    here : AreBefore now old.place front
    here = further moves.reads.more moves.reads.answers

    cut_is : cut max_file_line (drop old.place (input now)) (ending_of now.answers) ≡ Some (Ok now.line)
    cut_is = moves.tells (rw going refl)

    pub line_is_short : IsShort now.line
    line_is_short = cut_is_short max_file_line old.place (input now) now.line (ending_of now.answers) cut_is

    pub line_passed : wrong_behind front now.line ≡ None → AreBefore now now.place (front ++ now.line ∷ [])
    line_passed right = rw moves.place (passed_more max_file_line wrong_behind none_behind 0 old.place (input now) front here now.line (ending_of now.answers) cut_is right)

    pub line_is_wrong : (number : ℕ) (why : LineWrong) → number ≡ length front + 1 → wrong_behind front now.line ≡ Some (Says why)
        → HasWrong (input now) (ending_of now.answers) (record { line = number; kind = Says why })
    line_is_wrong number why count wrong = record {
      front = front;
      first = ends_by_line max_file_line wrong_behind none_behind 0 old.place (input now) front here now.line (ending_of now.answers) (Says why) cut_is wrong (input now) (ending_of now.answers) (goes_nowhere _ _);
      line_is = count;
      was_read = λ is. cc;
      unended = λ is. absurd (cc);
    }

  -- ---- none more

  module _ (fault : LineFault) (moves : Advances {A = Unit {0}} max_file_line old now (Err fault)) where
    here_still : AreBefore now old.place front
    here_still = further moves.reads.more moves.reads.answers

    module _ (stops : cut max_file_line (drop old.place (input now)) (ending_of now.answers) ≡ Some (Err fault)) where
      -- no line feed is in what isn't cut, and it ended so
      pub ends_so : fault ≢ line.LineTooLong → (ending_of now.answers ≡ Some fault) × (unended_line (drop old.place (input now)) ≡ drop old.place (input now))
      ends_so other = elim (cases_lt max_file_line (length (drop old.place (input now)))) [
        | inl many ↦ absurd (other (too_many max_file_line (drop old.place (input now)) (ending_of now.answers) fault stops many).1)
        | inr few ↦
            let (none, ends) = too_few max_file_line (drop old.place (input now)) (ending_of now.answers) fault stops few in
            (ends, all_unended max_file_line (drop old.place (input now)) none few)
      ]

      pub rest_is : unended_line (input now) ≡ unended_line (drop old.place (input now))
      rest_is = let all : input now ++ [] ≡ input now = append-nil (input now) in rw all at (here_still.rest [])

      pub all_lines : complete_lines (input now) ≡ front ++ complete_lines (drop old.place (input now))
      all_lines = let all : input now ++ [] ≡ input now = append-nil (input now) in rw all at (here_still.complete [])

      pub no_line_wrong : (number : ℕ) → number ≡ length front + 1 → fault ≢ line.ReadFailed → (fault ≡ line.Truncated → (front ≡ []) ⊎ (uncut_bytes now ≢ []))
          → HasWrong (input now) (ending_of now.answers) (record { line = number; kind = NoLine fault })
      no_line_wrong number count read unended = record {
        front = front;
        first = ends_by_fault max_file_line wrong_behind none_behind 0 old.place (input now) front here_still (ending_of now.answers) fault (NoLine fault) stops refl (input now) (ending_of now.answers) (goes_nowhere _ _);
        line_is = count;
        was_read = λ is. let same : fault ≡ line.ReadFailed = cc in read same;
        unended = λ is. let truncated : fault ≡ line.Truncated = cc in elim (unended truncated) [
          | inl first ↦ inl first
          | inr some ↦ inr (λ none. some (rw moves.place (sym (ends_so (λ long. cc)).1 ∙ sym rest_is ∙ none)))
        ];
      }

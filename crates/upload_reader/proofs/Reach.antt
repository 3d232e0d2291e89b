-- A call for the next line that isn't blank, behind lines that were passed.
use Rattle.std.proofs.Common.{◌≡◌, ℕ, ◌+◌, List, [], ◌∷◌, ◌++◌, length, drop, true, false, Option, Some, None, Result, Ok, Err, IsSome, IsErrOf, OnOk, refl, sym, ap, ◌∙◌, arith, length-append}
use Rattle.std.specs.Option.{IfSome}
use Rattle.std.proofs.lemmas.Option.{MatchOption-at_some}
use Rattle.byte_streams.specs.Answers.{Answer, bytes_of}
use Rattle.byte_streams.specs.Cutting.{ending_of}
use Rattle.byte_streams.specs.Reading.{Reading, ReadsWhile, NoLineYet, Advances, input}
use Rattle.byte_streams.specs.declared.fault.LineFault.{LineFault}
use Rattle.byte_streams.proofs.ReadingLaws.{bytes_of-append, reads_then}
use Rattle.upload_reader.specs.Front.{AreLinesTaken}
use Rattle.upload_reader.specs.Limits.{max_line_bytes}
use Rattle.upload_reader.specs.Message.{is_blank}
use Rattle.upload_reader.specs.inside.Passed.{PassedBetween, NextText, last, blank}
use Rattle.upload_reader.proofs.FrontSteps.{passed_longer, passed_more, none_yet}

-- a line that was cut, or a fault in its place
abbrev pub cut_one : Result (Unit {0}) LineFault
cut_one = Ok tt

abbrev pub no_line : LineFault → Result (Unit {0}) LineFault
no_line fault = Err fault

-- a line is cut only where there was no fault
pub cut_going : {R : Type 0} (old now : Reading R) → Advances max_line_bytes old now cut_one → old.fault ≡ None
cut_going old now moves = by old.fault moves.again
  where
    by : (had : Option LineFault) → IfSome had (λ fault. IsErrOf cut_one fault × (now ≡ old)) → had ≡ None
    by None again = refl
    by (Some fault) again = let never = again.0 in cc

-- `Says` is what is known of the lines before it, which blank ones don't change.
module _ {R E : Type 0} (judge : List (List ℕ) → List ℕ → Option E) (stop : List (List ℕ) → LineFault → Option E) (Says : List (List ℕ) → Type 0)
    (start base : ℕ) (begun : List (List ℕ)) (first new : Reading R) (number : ℕ) (result : Result (Unit {0}) LineFault) where
  abbrev Passed : Reading R → ℕ → List (List ℕ) → Type 0
  Passed lines at front = PassedBetween max_line_bytes judge stop (input lines) start at front

  -- nothing has ended it yet
  abbrev pub NotEnded : List Answer → Type 0
  NotEnded answers = (front : List (List ℕ)) × AreLinesTaken max_line_bytes judge stop (drop start (bytes_of answers)) None front None × Says front

  -- the lines that were passed, and where the call then was
  pub record Reached : Type 0 where
    pub now : Reading R
    pub front : List (List ℕ)
    pub behind : Passed new now.place front
    pub says : Says front
    pub number_is : number ≡ base + length front + 1
    pub moves : Advances max_line_bytes now new result
    pub text : OnOk result (is_blank new.line ≡ false)
    pub reads : ReadsWhile NotEnded first new
    pub fault : now.fault ≡ first.fault
    pub same : IsSome first.fault → (now ≡ first) × (front ≡ begun)

  -- lines that had a fault give it again, and stay as they are
  pub again : Reached → (had : LineFault) → first.fault ≡ Some had → IsErrOf result had × (new ≡ first) × (number ≡ base + length begun + 1)
  again r had is = let (here, front) = r.same (rw is refl) in
      let then : IsErrOf result had × (new ≡ r.now) = MatchOption-at_some _ (λ fault. IsErrOf result fault × (new ≡ r.now)) had (r.fault ∙ is) r.moves.again in
      (then.0, then.1 ∙ here, omega (arith, r.number_is, ap length front))

  pub unread : Reached → IsSome first.fault → new ≡ first
  unread r some = by first.fault refl some
    where
      by : (had : Option LineFault) → first.fault ≡ had → IsSome had → new ≡ first
      by (Some had) is some = (again r had is).1
      by None is some = cc

  further : (old now : Reading R) (at : ℕ) (front : List (List ℕ)) → Passed old at front → (more : List Answer) → now.answers ≡ old.answers ++ more → Passed now at front
  further old now at front behind more grown = rw (grown, bytes_of-append old.answers more) (passed_longer max_line_bytes judge stop start at (input old) front behind (bytes_of more))

  reads_on : (old now : Reading R) (front : List (List ℕ)) → Passed old old.place front → Says front → ReadsWhile NotEnded first old → ReadsWhile (NoLineYet max_line_bytes old.place) old now → ReadsWhile NotEnded first now
  reads_on old now front behind says before then = reads_then NotEnded (NoLineYet max_line_bytes old.place) first old now
      (λ rest none. (
        front,
        none_yet max_line_bytes judge stop start old.place (bytes_of (old.answers ++ rest)) front
            (rw (bytes_of-append old.answers rest) (passed_longer max_line_bytes judge stop start old.place (input old) front behind (bytes_of rest))) none,
        says,
      ))
      before then

  pub reach : ((before : List (List ℕ)) (line : List ℕ) → is_blank line ≡ true → judge before line ≡ None) → ((before : List (List ℕ)) (line : List ℕ) → is_blank line ≡ true → Says before → Says (before ++ line ∷ []))
      → (before : ℕ) (old : Reading R) (front : List (List ℕ)) → Passed old old.place front → Says front → before ≡ base + length front → ReadsWhile NotEnded first old → old.fault ≡ first.fault
      → (IsSome first.fault → (old ≡ first) × (front ≡ begun)) → NextText new number result before old → Reached
  reach skips still before old front behind says count reads fault same (last is moves text) = record {
    now = old;
    front = front;
    behind = further old new old.place front behind moves.reads.more moves.reads.answers;
    says = says;
    number_is = omega (arith, is, count);
    moves = moves;
    text = text;
    reads = reads_on old new front behind says reads moves.reads;
    fault = fault;
    same = same;
  }
  reach skips still before old front behind says count reads fault same (blank {now = now} moves is rest) =
      let none = cut_going old now moves in
      let cut_is = moves.tells (rw none refl) in
      let here = further old now old.place front behind moves.reads.more moves.reads.answers in
      let behind' : Passed now now.place (front ++ now.line ∷ []) = rw moves.place (passed_more max_line_bytes judge stop start old.place (input now) front here now.line (ending_of now.answers) cut_is (skips front now.line is)) in
      reach skips still (before + 1) now (front ++ now.line ∷ []) behind' (still front now.line is says) (omega (arith, count, length-append front (now.line ∷ []))) (reads_on old now front behind says reads moves.reads)
      (moves.fault ∙ sym none ∙ fault) (λ some. let never = rw (sym fault ∙ none) at some in absurd (cc)) rest

-- A worker from draw to draw.
use Rattle.std.proofs.Common.{◌≡◌, ℕ, ◌<◌, ◌≤◌, List, [], ◌∷◌, ◌++◌, length, leb, true, false, ◌||◌, Result, Ok, Err, IfOk, IsOkAnd, Some, slice_get, sym, ap, subst, ◌∙◌, arith, append_assoc, append-nil}
use Rattle.std.proofs.Math.Bool.{or-false}
use Rattle.std.proofs.lemmas.Bool.{leb-true, leb-false}
use Rattle.std.proofs.lemmas.List.{map-append}
use Rattle.std.proofs.lemmas.List.Elements.{All-push}
use Rattle.std.proofs.lemmas.List.Folds.{list_any-append}
use Rattle.visit_replay.specs.declared.outcome.Outcome.{Outcome}
use Rattle.replay_workers.specs.Draws.{Pool, Draws, IsSeatOf, is_spent, with_draw}
use Rattle.replay_workers.specs.Work.{done_numbers, AreOf, HasDrawn}
use Rattle.replay_workers.specs.inside.Shares.{HasNext}
use Rattle.replay_workers.specs.declared.share.Done.{Done}

-- the number that spends a seat is at or past the count, and one that doesn't is below it
spent_by : (seat : Draws) (x : ℕ) → is_spent seat ≡ false → is_spent (with_draw seat x) ≡ leb seat.count x
spent_by seat x none =
    list_any-append (leb seat.count) seat.drawn (x ∷ []) ∙ ap (λ b. b || (leb seat.count x || false)) none ∙ or-false (leb seat.count x)

pub past_end : (seat : Draws) (x : ℕ) → is_spent seat ≡ false → is_spent (with_draw seat x) ≡ true → seat.count ≤ x
past_end seat x unspent spent = leb-true seat.count x (sym (spent_by seat x unspent) ∙ spent)

pub before_end : (seat : Draws) (x : ℕ) → is_spent seat ≡ false → is_spent (with_draw seat x) ≡ false → x < seat.count
before_end seat x unspent still = leb-false seat.count x (sym (spent_by seat x unspent) ∙ still)

-- what a worker has done so far
pub record IsWorking {V E : Type 0} (items : V → List Done) (own : List Outcome) (pool : Pool) (old seat : Draws) (done : Result V E) : Type 0 where
  pub of : IsSeatOf pool seat
  pub unspent : is_spent seat ≡ false
  pub done_is : IfOk done (λ some. (seat.drawn ≡ old.drawn ++ done_numbers (items some)) × AreOf own (items some))

module _ {V E : Type 0} (items : V → List Done) (own : List Outcome) (pool : Pool) (old : Draws) where
  pub begins : (none : V) → IsSeatOf pool old → is_spent old ≡ false → items none ≡ [] → IsWorking {V = V} {E = E} items own pool old old (Ok none)
  begins none of unspent empty = record {
    of = of;
    unspent = unspent;
    done_is = (sym (ap (λ done. old.drawn ++ done_numbers done) empty ∙ append-nil old.drawn), none_of (items none) empty);
  }
    where
      none_of : (done : List Done) → done ≡ [] → AreOf own done
      none_of done is = λ k d within. absurd (omega (arith, within, ap length is))

  -- the number that spends it
  pub ends : (seat : Draws) (done : Result V E) (x : ℕ) → IsWorking items own pool old seat done → is_spent (with_draw seat x) ≡ true
      → seat.count ≡ old.count → IfOk done (λ some. HasDrawn own old (with_draw seat x) (items some))
  ends seat (Err e) x working spent same = tt
  ends seat (Ok some) x working spent same = record {
    last = x;
    past = let past = past_end seat x working.unspent spent in omega (arith, past, same);
    drawn = ap (λ drawn. drawn ++ x ∷ []) working.done_is.0 ∙ append_assoc old.drawn (done_numbers (items some)) (x ∷ []);
    outcomes = working.done_is.1;
  }

  -- and any other
  pub goes_on : (seat : Draws) (done : Result V E) (x : ℕ) (more : Result V E) → IsWorking items own pool old seat done
      → is_spent (with_draw seat x) ≡ false → IsSeatOf pool (with_draw seat x) → IfOk more (λ more. IsOkAnd done (λ some. HasNext own x (items some) (items more)))
      → IsWorking items own pool old (with_draw seat x) more
  goes_on seat done x more working still of added = record { of = of; unspent = still; done_is = with_more more done working.done_is added }
    where
      with_more : (more done : Result V E) → IfOk done (λ some. (seat.drawn ≡ old.drawn ++ done_numbers (items some)) × AreOf own (items some))
          → IfOk more (λ more. IsOkAnd done (λ some. HasNext own x (items some) (items more)))
          → IfOk more (λ more. (seat.drawn ++ x ∷ [] ≡ old.drawn ++ done_numbers (items more)) × AreOf own (items more))
      with_more (Err e) done was one = tt
      with_more (Ok more) (Err e) was one = absurd one
      with_more (Ok more) (Ok some) was (outcome, right, more_are) = (
        ap (λ drawn. drawn ++ x ∷ []) was.0 ∙ append_assoc old.drawn (done_numbers (items some)) (x ∷ []) ∙ ap (λ numbers. old.drawn ++ numbers)
            (sym (map-append (λ (o : Done). o.number) (items some) (record { number = x; outcome = outcome } ∷ [])) ∙ ap done_numbers (sym more_are)),
        subst (AreOf own) (sym more_are) (All-push (λ (o : Done). slice_get own o.number ≡ Some o.outcome) (items some) _ was.1 right),
      )

use Rattle.std.proofs.Common.{true, false, ap, sym, ◌∙◌, arith}
use Rattle.std.proofs.lemmas.Bool.{false≢true}
use Rattle.std.proofs.lemmas.Option.{slice_get_within}
use Rattle.conflict_desk.specs.Docket.{is_conflict}
use Rattle.conflict_desk.proofs.Fronts.{tell_more, tell_at, passed_more, item_is, written}
use Rattle.conflict_desk.proofs.open_docket.settle.Goals.{else-not-gone-place-via-then-not-gone-place+else-is_conflict, else-not-gone-place-via-else-not-gone-place}
use Rattle.conflict_desk.proofs.open_docket.settle.Goals as goal

pub is_gone-requires-clause-back : goal.is_gone-requires-clause-back
is_gone-requires-clause-back c = λ k link at. (c.requires.links k link at).back

pub returns-then-is_conflict-clause-settled : goal.returns-then-is_conflict-clause-settled
returns-then-is_conflict-clause-settled c = λ said follows was.
    let tell = c.loop-place.invariant.tell said follows was in
    let is = c.is_gone.ensures said (λ k link le at. follows k link (omega (arith, c.loop-place.invariant.from, le)) at) tell in
    record {
      tell = tell_at said c.loop-place.gone c.loop-place.place c.is_gone.result tell;
      passed = c.loop-place.invariant.passed said follows was;
      stops = λ case at. (
        ap (λ item. is_conflict item.outcome) (sym (item_is c.args.cases.now c.loop-place.place _ case c.index-cases-place.is at)) ∙ sym c.is_conflict.ensures ∙ c.if-is_conflict.true,
        written said c.loop-place.gone c.loop-place.place c.is_gone.result false (omega arith) is c.if-not-gone-place.true,
      );
    }

pub loop-place-preserved : goal.loop-place-preserved
loop-place-preserved c = record {
  from = omega arith;
  within = omega arith;
  tell = λ said follows was.
      let tell = c.loop-place.invariant.tell said follows was in
      tell_more said c.loop-place.gone c.loop-place.place c.is_gone.result tell (omega arith) (c.is_gone.ensures said (λ k link le at. follows k link (omega (arith, c.loop-place.invariant.from, le)) at) tell);
  passed = λ said follows was.
      let tell = c.loop-place.invariant.tell said follows was in
      let is = c.is_gone.ensures said (λ k link le at. follows k link (omega (arith, c.loop-place.invariant.from, le)) at) tell in
      passed_more said c.args.cases.now c.args.from c.loop-place.place (c.loop-place.invariant.passed said follows was) (λ case at conflict. elim c.else-not-gone-place.branch [
        | else-not-gone-place-via-then-not-gone-place+else-is_conflict w ↦
            absurd (false≢true (w.if-is_conflict.ensures ∙ ap (λ item. is_conflict item.outcome) (item_is c.args.cases.now c.loop-place.place _ case w.index-cases-place.is at) ∙ conflict))
        | else-not-gone-place-via-else-not-gone-place w ↦ written said c.loop-place.gone c.loop-place.place c.is_gone.result true (omega arith) is w.if-not-gone-place.false
      ]);
}

pub returns-clause-settled : goal.returns-clause-settled
returns-clause-settled c = λ said follows was. record {
  tell = c.loop-place.invariant.tell said follows was;
  passed = c.loop-place.invariant.passed said follows was;
  stops = λ case at. absurd (omega (arith, slice_get_within c.args.cases.now c.loop-place.place case at, c.loop-place-test.false));
}

use Rattle.std.proofs.Common.{◌≡◌, ◌+◌, ◌<◌, subst, take, length, refl, sym, ◌∙◌, arith}
use Rattle.std.proofs.lemmas.Option.{slice_get-get_or}
use Rattle.std.specs.Prelude.{IsSomeAnd}
use Rattle.lanes_in_turn.specs.Round.{entries_of}
use Rattle.lanes_in_turn.proofs.RoundLaws.{none, lanes_begun, lanes_asked, entries_more, only_there}
use Rattle.lanes_in_turn.proofs.LaneSteps.{when_ok, when_err}
use Rattle.lanes_in_turn.proofs.in_turn.take_all.Goals as goal

pub loop-k-init : goal.loop-k-init
loop-k-init g c = record { few = c.requires.few; together = c.requires.together; lanes = λ known quota uploads untouched is. lanes_begun known quota uploads c.args.lanes.now untouched is }

pub returns-then-is_err : goal.returns-then-is_err
returns-then-is_err g c = λ known quota uploads untouched is. record {
  followed = c.loop-k.k-index;
  lanes_are =
      let seen = entries_of (take c.loop-k.k-index c.args.schedule.now) in
      lanes_asked known quota uploads seen seen _ _ c.take_at.new.lanes (λ j. refl) (only_there c.args.schedule.now c.loop-k.k-index c.loop-k-test.true)
      (when_err c.take_at.result _ (sym c.is_err.ensures.value ∙ c.if-is_err.true) c.take_at.ensures.refused known quota uploads _ (c.loop-k.invariant.lanes known quota uploads untouched is));
  stop_is =
      subst (λ entry. IsSomeAnd entry (λ lane. lane < length c.take_at.new.lanes)) (sym (slice_get-get_or c.args.schedule.now c.loop-k.k-index 0 c.loop-k-test.true))
      (when_err c.take_at.result _ (sym c.is_err.ensures.value ∙ c.if-is_err.true) c.take_at.ensures.there);
}

pub loop-k-preserved : goal.loop-k-preserved
loop-k-preserved g c = record {
  few = c.take_at.ensures.few;
  together = when_ok c.take_at.result _ (sym c.is_err.ensures.value ∙ c.if-is_err.false) c.take_at.ensures.together;
  lanes = λ known quota uploads untouched is.
      lanes_asked known quota uploads _ (entries_of (take (c.loop-k.k-index + 1) c.args.schedule.now)) none none c.take_at.new.lanes (entries_more c.args.schedule.now c.loop-k.k-index c.loop-k-test.true) (λ j. refl)
      (when_ok c.take_at.result _ (sym c.is_err.ensures.value ∙ c.if-is_err.false) c.take_at.ensures.goes known quota uploads _ (c.loop-k.invariant.lanes known quota uploads untouched is));
}

pub returns-then-have_ended : goal.returns-then-have_ended
returns-then-have_ended g c = λ known quota uploads untouched is.
    let whole : c.loop-k.k-index ≡ length c.args.schedule.now = omega (arith, c.loop-k-test.false, c.loop-k.auto.k-index-end) in
    record {
      followed = c.loop-k.k-index;
      lanes_are = c.loop-k.invariant.lanes known quota uploads untouched is;
      stop_is = (whole, sym c.have_ended.ensures ∙ c.if-have_ended.true);
    }

pub returns-else-have_ended : goal.returns-else-have_ended
returns-else-have_ended g c = λ known quota uploads untouched is.
    let whole : c.loop-k.k-index ≡ length c.args.schedule.now = omega (arith, c.loop-k-test.false, c.loop-k.auto.k-index-end) in
    record {
      followed = c.loop-k.k-index;
      lanes_are = c.loop-k.invariant.lanes known quota uploads untouched is;
      stop_is = (whole, sym c.have_ended.ensures ∙ c.if-have_ended.false);
    }

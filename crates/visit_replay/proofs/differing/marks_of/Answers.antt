use Rattle.std.proofs.Common.{◌≡◌, ◌+◌, ◌<◌, ◌++◌, [], length, map, Some, None, IfSome, sym, ap, subst, ◌∙◌}
use Rattle.std.proofs.lemmas.List.Elements.{All-cons, All-nil}
use Rattle.visit_replay.specs.inside.Differing.{AreCompared, other_by}
use Rattle.visit_replay.specs.inside.Marks.{AreMarks}
use Rattle.visit_replay.specs.inside.Told.{told_marked}
use Rattle.visit_replay.specs.inside.Trails.{asked_at, asked_from}
use Rattle.visit_replay.proofs.FormerLaws.{asks_some, mark_more, marks_end, more_marks}
use Rattle.visit_replay.proofs.differing.marks_of.Goals as goal

pub mark_at-requires-clause-names : goal.mark_at-requires-clause-names
mark_at-requires-clause-names c = c.loop-place.invariant.is_names ∙ sym c.loop-place.invariant.was_names

pub mark_at-requires-clause-known : goal.mark_at-requires-clause-known
mark_at-requires-clause-known c =
    subst (λ names. AreCompared names c.loop-place.compared.all.items) (sym c.loop-place.invariant.was_names) c.loop-place.invariant.known

pub loop-place-preserved : goal.loop-place-preserved
loop-place-preserved c =
    let own = c.args.own.now in
    let trail = c.args.trail.now in
    let fresh = c.args.fresh.now in
    let place = c.in-Some.place in
    let mark = c.in_ok-mark.mark in
    let names = c.loop-place.invariant.was_names in
    let some = asks_some (asked_at trail place) c.in-Some.ensures.asks in
    let marked : IfSome (asked_at trail place) (λ now. told_marked (Some own) mark ≡ other_by fresh own now) =
    subst (λ them. IfSome (asked_at trail place) (λ now. told_marked (Some own) mark ≡ other_by them own now)) names c.in_ok-mark.ensures.told in
    record {
      firsts = c.in_ok-mark.ensures.firsts;
      was = c.in_ok-mark.ensures.was;
      was_names = ap (λ n. n.now) c.mark_at.ensures.names.0 ∙ names;
      is = c.in_ok-mark.ensures.is;
      is_names = ap (λ n. n.now) c.mark_at.ensures.names.1 ∙ c.loop-place.invariant.is_names;
      known = subst (λ them. AreCompared them c.mark_at.new.compared.all.items) names c.in_ok-mark.ensures.known;
      within = subst (AreMarks own) (sym c.in_ok-push.ensures.items) (more_marks own c.loop-place.marks.items mark c.loop-place.invariant.within c.in_ok-mark.ensures.within);
      told = ap (λ them. map (told_marked (Some own)) them ++ map (other_by fresh own) (asked_from trail (place + 1))) c.in_ok-push.ensures.items
          ∙ mark_more fresh own trail c.loop-place.from place c.loop-place.marks.items _ c.in-Some.ensures.some.2 c.in-Some.ensures.some.1 c.loop-place.invariant.told some.0 mark some.1
          (subst (λ o. IfSome o (λ now. told_marked (Some own) mark ≡ other_by fresh own now)) some.1 marked);
    }

pub returns-clause-told : goal.returns-clause-told
returns-clause-told c =
    marks_end c.args.fresh.now c.args.own.now c.args.trail.now c.loop-place.from c.loop-place.marks.items _ (c.asking_from.ensures.none c.in_default.is) c.loop-place.invariant.told

pub loop-place-init : goal.loop-place-init
loop-place-init c =
    let fresh = c.args.fresh.now in
    let own = c.args.own.now in
    let load = c.in_ok-marks.ensures in
    record {
      firsts = c.new-firsts.ensures own;
      was = c.begin.ensures.on;
      was_names = ap (λ n. n.now) (c.begin.ensures.names ∙ c.in_ok-was.ensures.names);
      is = c.begin-2.ensures.on;
      is_names = ap (λ n. n.now) (c.begin-2.ensures.names ∙ c.in_ok-is.ensures.names);
      known = c.new-compared.ensures.compared fresh;
      within = subst (AreMarks own) (sym load) (All-cons (λ mark. IfSome mark (λ p. p < length own.deeds.items)) None [] tt (All-nil (λ mark. IfSome mark (λ p. p < length own.deeds.items))));
      told = ap (λ them. map (told_marked (Some own)) them ++ map (other_by fresh own) (asked_from c.args.trail.now 0)) load;
    }

use Rattle.std.proofs.Common.{◌≡◌, ◌+◌, ◌<◌, ◌∷◌, ◌++◌, [], length, take, is_some, true, None, refl, sym, ap, subst, ◌∙◌, arith}
use Rattle.std.specs.BTreeMap.{get}
use Rattle.std.specs.Ordering.{nat_cmp}
use Rattle.visit_replay.specs.Aim.{by_path}
use Rattle.visit_replay.specs.Moved.{event_numbered}
use Rattle.visit_replay.specs.inside.KeptFields.{Keeps}
use Rattle.visit_replay.proofs.Looking.{none_met, not_moved}
use Rattle.visit_replay.proofs.Places.{taken_here}
use Rattle.visit_replay.proofs.moves.Asked.look.Goals as goal

pub loop-k-preserved : goal.loop-k-preserved
loop-k-preserved c =
    let visit = c.args.visit.now in
    let k = c.loop-k.k in
    let event = c.index-events-k.result in
    let events = c.as_slice-events.result.now in
    let below : k < length events = omega (arith, c.loop-k-test.true, c.last_asked-k-end.ensures.within) in
    let taken : take (k + 1) visit.events ≡ take k visit.events ++ event ∷ [] =
    subst (λ them. take (k + 1) them ≡ take k them ++ event ∷ []) c.as_slice-events.ensures (taken_here events k event below c.index-events-k.is) in
    record {
      kept = subst (λ before. Keeps (by_path visit.page) c.note.new.fields visit.page before) (sym taken) (c.in_ok-note.ensures.takes (take k visit.events) c.loop-k.invariant.kept);
      met = λ outcome requests right. c.in_ok-meet.ensures.meets.met outcome requests (c.loop-k.invariant.met outcome requests right);
      same = λ number. c.in_ok-meet.ensures.meets.same number ∙ c.loop-k.invariant.same number;
      firsts = c.in_ok-meet.ensures.firsts;
      board = c.in_ok-meet.ensures.board;
      known = c.in_ok-meet.ensures.known;
      own = (c.in_ok-note.ensures.known, c.in_ok-meet.ensures.own.1, c.in_ok-meet.ensures.own.2);
    }

pub returns-clause-right : goal.returns-clause-right
returns-clause-right c = λ outcome requests right.
    let visit = c.args.visit.now in
    let end = c.last_asked-k-end.result in
    let over : c.loop-k.k ≡ end = omega (arith, c.loop-k-test.false, c.loop-k.auto.k-end) in
    let met = c.loop-k.invariant.met outcome requests right in
    record {
      found = met.found;
      missing = λ looked number other at.
          let there : is_some (get nat_cmp c.args.self.now.numbers number) ≡ true = sym (c.loop-k.invariant.same number) ∙ ap is_some at in
          let none : event_numbered (take end visit.events) number ≡ None = rw over at (met.pending number other at) in
          not_moved c.args.finding.now visit outcome number other
          (subst (λ them. event_numbered them number ≡ event_numbered (take end them) number) c.as_slice-events.ensures (c.last_asked-k-end.ensures.all number there) ∙ none);
    }

pub loop-k-init : goal.loop-k-init
loop-k-init c = record {
  kept = c.in_ok-fields.ensures.held c.args.visit.now.page (omega (arith, c.node_count-2.ensures));
  met = λ outcome requests right. none_met c.args.finding.now c.args.visit.now outcome c.args.self.now c.args.self.now.numbers right refl;
  same = λ number. refl;
  firsts = c.new-firsts.ensures c.args.trail.now;
  board = c.begin.ensures.on;
  known = c.new-compared.ensures.found c.args.finding.now;
  own = (c.new-own.ensures.0, c.new-own.ensures.1, c.new-own.ensures.2 ∙ c.names_of.ensures);
}

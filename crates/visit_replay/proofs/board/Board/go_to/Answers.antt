use Rattle.std.proofs.Common.{take, IfSome, subst, sym, ◌∙◌, arith}
use Rattle.visit_replay.specs.inside.Boards.{IsListedFor}
use Rattle.visit_replay.specs.inside.Deeds.{text_behind, is_on_behind}
use Rattle.visit_replay.specs.inside.KeptDeeds.{deed_seen}
use Rattle.visit_replay.specs.inside.KeptFields.{Hold}
use Rattle.visit_replay.proofs.BoardLaws.{deed_on}
use Rattle.visit_replay.proofs.board.Board.go_to.Goals as goal

pub returns-clause-before : goal.returns-clause-before
returns-clause-before c =
    let page = c.args.trail.now.page in
    let deeds = c.args.trail.now.deeds.items in
    let before = c.advance.new.self in
    let new = c.prepare.new.self in
    let on = c.advance.ensures.on in
    let rest = c.prepare.ensures.rest in
    record {
      on = record {
        wide = c.prepare.ensures.wide;
        few = omega (arith, on.few, rest.0);
        within = omega (arith, on.within, rest.2);
        held = subst (λ n. Hold new.fields page (text_behind page (take n deeds)) (is_on_behind page (take n deeds))) (sym rest.2)
            (subst (λ f. Hold f page (text_behind page (take before.at deeds)) (is_on_behind page (take before.at deeds))) (sym rest.3) on.held);
        listed = c.prepare.ensures.listed;
      };
      at = rest.2 ∙ c.advance.ensures.at;
      there = c.requires.there;
      ready = subst (λ o. IfSome o (IsListedFor new)) (sym c.seen.ensures) c.prepare.ensures.ready;
    }

pub prepare-requires-clause-on : goal.prepare-requires-clause-on
prepare-requires-clause-on c =
    let trail = c.args.trail.now in
    deed_on trail.page trail.deeds.items c.args.place (deed_seen c.seen.result) trail.within c.requires.there c.seen.ensures

use Rattle.std.proofs.Common.{◌≡◌, ◌<◌, length, take, subst, ◌∙◌, arith}
use Rattle.visit_replay.specs.inside.Deeds.{text_behind, is_on_behind}
use Rattle.visit_replay.specs.inside.KeptDeeds.{deed_seen}
use Rattle.visit_replay.specs.inside.KeptFields.{Hold}
use Rattle.visit_replay.proofs.BoardLaws.{hold_more, deed_on}
use Rattle.visit_replay.proofs.fields.Fields.take_all.Goals as goal

pub loop-place-preserved : goal.loop-place-preserved
loop-place-preserved c =
    let deeds = c.args.deeds.now.items in
    let i = c.loop-place.place in
    let deed = deed_seen c.seen.result in
    let below : i < length deeds = omega (arith, c.loop-place-test.true, c.requires.there) in
    record {
      held = λ page are old.
          hold_more page deeds i deed c.take_in.new.self c.seen.ensures
          (c.take_in.ensures.held page (text_behind page (take i deeds)) (is_on_behind page (take i deeds)) (deed_on page deeds i deed are below c.seen.ensures)
          (c.loop-place.invariant.held page are old));
      long = c.take_in.ensures.room.0 ∙ c.loop-place.invariant.long;
      wide = c.take_in.ensures.room.1 ∙ c.loop-place.invariant.wide;
    }

pub returns-clause-held : goal.returns-clause-held
returns-clause-held c = λ page are old.
    let deeds = c.args.deeds.now.items in
    let all : c.loop-place.place ≡ c.args.to = omega (arith, c.loop-place-test.false, c.requires.up) in
    subst (λ n. Hold c.loop-place.self page (text_behind page (take n deeds)) (is_on_behind page (take n deeds))) all (c.loop-place.invariant.held page are old)

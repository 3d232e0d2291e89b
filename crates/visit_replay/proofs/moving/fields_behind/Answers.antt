use Rattle.std.proofs.Common.{◌≡◌, ◌<◌, ◌+◌, ◌∷◌, [], ◌++◌, length, take, subst, sym, arith}
use Rattle.visit_replay.specs.Aim.{by_path}
use Rattle.visit_replay.specs.inside.KeptFields.{Keeps}
use Rattle.visit_replay.proofs.Places.{taken_here}
use Rattle.visit_replay.proofs.moving.fields_behind.Goals as goal

pub loop-k-preserved : goal.loop-k-preserved
loop-k-preserved c =
    let page = c.args.page.now in
    let events = c.args.events.now in
    let k = c.loop-k.k in
    let event = c.index-events-k.result in
    let below : k < length events = omega (arith, c.loop-k-test.true, c.requires.count) in
    let taken : take (k + 1) events ≡ take k events ++ event ∷ [] = taken_here events k event below c.index-events-k.is in
    record {
      kept = subst (λ before. Keeps (by_path page) c.note.new.fields page before) (sym taken) (c.in_ok-note.ensures.takes (take k events) c.loop-k.invariant.kept);
      known = c.in_ok-note.ensures.known;
    }

use Rattle.std.proofs.Common.{◌<◌, length, sym, ◌∙◌, arith}
use Rattle.visit_replay.specs.inside.FieldsNow.{pair_of}
use Rattle.visit_replay.proofs.ToldLaws.{not_there, told_past}
use Rattle.visit_replay.proofs.sent_pairs.SentPairs.next_counted.Goals as goal

pub loop-place-preserved : goal.loop-place-preserved
loop-place-preserved c =
    let self = c.args.self.now in
    let place = c.loop-place.place in
    let below : place < length self.senders.now = omega (arith, c.loop-place-test.true) in
    record {
      within = omega (arith, below);
      same = λ names marked.
          told_past names self self.are marked place below (not_there pair_of c.counted_at.result _ c.counted_at.ensures (sym c.is_some.ensures ∙ c.if-is_some.false))
          ∙ c.loop-place.invariant.same names marked;
    }

use Rattle.std.proofs.Common.{◌≡◌, ◌≤◌, arith, sym, ◌∙◌}
use Rattle.visit_replay.specs.inside.Deeds.{deed_number}
use Rattle.visit_replay.specs.inside.KeptDeeds.{deed_seen}
use Rattle.visit_replay.proofs.FirstAsked.{found_here, passed_more}
use Rattle.visit_replay.proofs.first_deeds.FirstDeeds.walk_to.Goals as goal

pub returns-then-here-number-2-clause-first : goal.returns-then-here-number-2-clause-first
returns-then-here-number-2-clause-first c =
    let deed = deed_seen c.seen.result in
    let number : deed_number deed ≡ c.args.number = sym c.request-here.ensures ∙ c.if-here-number-2.true in
    found_here c.args.trail.now c.loop-place.self.from c.loop-place.self.last c.in-Some.place deed c.args.number c.loop-place.invariant.passed c.loop-place.invariant.below
    c.in-Some.ensures.passed c.in-Some.ensures.some.1 c.seen.ensures c.in-Some.ensures.asks number

pub loop-place-preserved : goal.loop-place-preserved
loop-place-preserved c =
    let deed = deed_seen c.seen.result in
    let more = c.max-self.result in
    let less : c.loop-place.self.last ≤ more = omega arith in
    let here : deed_number deed ≤ more = omega arith in
    record {
      passed = passed_more c.args.trail.now c.loop-place.self.from c.loop-place.self.last c.in-Some.place deed more c.loop-place.invariant.passed
          c.in-Some.ensures.passed c.seen.ensures less here;
      below = omega arith;
      places = c.loop-place.invariant.places;
    }

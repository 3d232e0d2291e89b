use Rattle.std.proofs.Common.{[], ◌∷◌, refl, arith}
use Rattle.warp_server.proofs.program.rounds.gather_rounds.Goals as goal

pub loop-init : goal.loop-init
loop-init g c = record { made = []; count = refl; makes = (c.new-gathered.ensures.clients, c.new-gathered.ensures.stop, refl) }

pub returns-then-is_short-clause-ok : goal.returns-then-is_short-clause-ok
returns-then-is_short-clause-ok g c =
    let inv = c.loop.invariant in record {
      made = inv.made;
      makes = inv.makes;
      few = omega (arith, inv.count, c.loop-test.true);
      whole = λ done. absurd (c.is_short.ensures.short c.if-is_short.true done);
    }

pub loop-preserved : goal.loop-preserved
loop-preserved g c =
    let inv = c.loop.invariant in let round = c.in_ok-gathered.ensures.ok in
    record { made = round.0 ∷ inv.made; count = omega (arith, inv.count); makes = (c.loop.gathered, _, inv.makes, round.1) }

pub returns-clause-ok : goal.returns-clause-ok
returns-clause-ok g c =
    let inv = c.loop.invariant in record {
      made = inv.made;
      makes = inv.makes;
      few = omega (arith, inv.count, c.loop.auto.counter-end);
      whole = λ done. omega (arith, inv.count, c.loop-test.false, c.loop.auto.counter-end);
    }

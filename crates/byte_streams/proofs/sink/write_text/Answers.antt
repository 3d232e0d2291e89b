use Rattle.std.proofs.Common.{ℕ, List, drop, arith, length-take}
use Rattle.byte_streams.proofs.TextWriting.{rest_is, takes_more}
use Rattle.byte_streams.proofs.sink.write_text.Goals as goal

pub loop-at-preserved : goal.loop-at-preserved
loop-at-preserved g c =
    let text : List ℕ = c.args.text.now in let at = c.loop-at.at in let count = c.in-Ok.count in
    let rest = rest_is at text in
    let long = rw rest at c.in-Ok.ensures.bound in
    record {
      within = omega (arith, c.in-Ok.ensures.bound);
      takes = takes_more g.W.Sink.puts g.W.Write.contents _ _ _ text at count c.loop-at.invariant.takes (rw rest at c.in-Ok.ensures.told) (rw rest at c.in-Ok.ensures.bytes)
          (omega (arith, long, c.in-Ok.count-test.1, length-take count (drop at text)));
    }

use Rattle.collect_http.proofs.HeardLaws.{one_cut}
use Rattle.collect_http.proofs.heard.first_lines.Goals as goal

pub loop-preserved : goal.loop-preserved
loop-preserved c = let (line, first, is) = c.in-Some.ensures in
    one_cut c.args.bytes.now c.loop.rest.now c.in-Some.more.now line c.loop.counter c.loop.invariant first is

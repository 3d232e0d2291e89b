use Rattle.std.proofs.Common.{◌<◌, length, arith}
use Rattle.std.proofs.lemmas.Option.{slice_get-get_or}
use Rattle.round_robin.proofs.Turns.{turned_none, turned_more, turned_all}
use Rattle.round_robin.proofs.dealt.reverse_each.Goals as goal

pub loop-k-init : goal.loop-k-init
loop-k-init g c = turned_none c.args.hands.now

pub loop-k-preserved : goal.loop-k-preserved
loop-k-preserved g c =
    let within : c.loop-k.k < length c.loop-k.hands = omega arith in
    turned_more c.loop-k.k c.args.hands.now c.loop-k.hands _ c.reverse.new.self within
    (slice_get-get_or c.loop-k.hands c.loop-k.k c.index-hands-k.result within) c.reverse.ensures.items c.loop-k.invariant

pub returns-clause-each : goal.returns-clause-each
returns-clause-each g c = turned_all c.loop-k.k c.args.hands.now c.loop-k.hands (omega arith) c.loop-k.invariant

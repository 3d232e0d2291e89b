use Rattle.std.proofs.Common.{◌<◌, take, length, arith}
use Rattle.std.specs.Cow.{cow_str_bytes}
use Rattle.page_looks.specs.inside.Told.{told_seen}
use Rattle.page_looks.specs.inside.Shapes.{told_texts}
use Rattle.page_looks.proofs.NumberingLaws.{texts_none, texts_more, told_next}
use Rattle.page_looks.proofs.shapes.push_told.Goals as goal

pub loop-pair-init : goal.loop-pair-init
loop-pair-init c = texts_none c.args.below.now c.args.own.now c.args.key.now.items

pub loop-pair-preserved : goal.loop-pair-preserved
loop-pair-preserved c =
    let less : c.loop-pair.pair-index < length c.args.told.now = omega arith in
    let x = c.pair-item.result in
    rw (told_next c.args.told.now c.loop-pair.pair-index x less c.pair-item.is)
    (texts_more c.args.below.now c.args.own.now c.loop-pair.own c.push_text.new.own c.push_text.new.own c.push_text-in-loop-pair.new.own
    c.args.key.now.items c.loop-pair.key.items c.push_text.new.key.items c.push_text-in-loop-pair.new.key.items
    (told_texts (told_seen (take c.loop-pair.pair-index c.args.told.now))) (cow_str_bytes x.0) (cow_str_bytes x.1) c.loop-pair.invariant
    (rw c.in_ok-clone.ensures.cases at c.in_ok-push_text.ensures) (rw c.in_ok-clone-2.ensures.cases at c.in_ok-push_text-2.ensures))

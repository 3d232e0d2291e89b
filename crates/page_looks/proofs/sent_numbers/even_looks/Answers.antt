use Rattle.std.proofs.Common.{◌-◌, suc, get_or, arith}
use Rattle.std.proofs.lemmas.Option.{slice_get_within}
use Rattle.page_looks.proofs.SentLaws.{first_place, even_step, even_all}
use Rattle.page_looks.proofs.sent_numbers.even_looks.Goals as goal

pub bounds-sends-place : goal.bounds-sends-place
bounds-sends-place c =
    let (place, (w, is)) = first_place c.args.looks.now c.args.first.now c.args.sends.now c.loop-i.i c.requires.first c.requires.long (omega arith) in
    omega (arith, w.many, is)

pub note_look-requires : goal.note_look-requires
note_look-requires c =
    let (place, (w, is)) = first_place c.args.looks.now c.args.first.now c.args.sends.now c.loop-i.i c.requires.first c.requires.long (omega arith) in
    omega (arith, c.loop-i.invariant.many, slice_get_within c.args.first.now (get_or c.args.looks.now c.loop-i.i 0) (suc place) w.known)

pub loop-i-preserved : goal.loop-i-preserved
loop-i-preserved c =
    let (place, (w, is)) = first_place c.args.looks.now c.args.first.now c.args.sends.now c.loop-i.i c.requires.first c.requires.long (omega arith) in
    even_step c.args.looks.now c.args.first.now c.args.sends.now c.loop-i.even.items c.note_look.new.even.items c.loop-i.i place
    (get_or c.args.first.now (get_or c.args.looks.now c.loop-i.i 0) 0 - 1) c.loop-i.invariant w
    (omega (arith, c.requires.long)) (omega (arith, is)) c.note_look.ensures

pub returns : goal.returns
returns c =
    even_all c.args.looks.now c.args.first.now c.args.sends.now c.loop-i.even.items c.loop-i.i c.requires.first c.loop-i.invariant (omega arith)

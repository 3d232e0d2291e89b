use Rattle.std.proofs.Common.{ap, arith}
use Rattle.crossbeam_queue.specs.Passes.{view}
use Rattle.std.specs.Vec.Iter.{into_iter_items}
use Rattle.upload_lanes.proofs.RecorderLaws.{opened_more, opened_next}
use Rattle.upload_lanes.proofs.Zips.{empty}
use Rattle.upload_lanes.specs.inside.Sent.{each_of}
use Rattle.upload_lanes.proofs.recorder.take_one.Goals as goal

pub returns-in-Some-clause-taken : goal.returns-in-Some-clause-taken
returns-in-Some-clause-taken g c = λ done is. opened_next done (view c.args.taker.now) c.args.opened.now is _ _ (ap (each_of c.args.opened.now) c.in-Some.ensures.items)

pub returns-in-Item-clause-taken : goal.returns-in-Item-clause-taken
returns-in-Item-clause-taken g c = λ done is.
    let none = ap (each_of c.args.opened.now) (empty (into_iter_items c.args.opened.now.body) (omega (arith, c.in_default.ensures.cases.0))) in
    opened_more done (view c.args.taker.now) c.args.opened.now is none c.in-Item.item (view c.take.new.self) c.in-Item.ensures.answer c.open.result c.open.new.opened c.open.ensures

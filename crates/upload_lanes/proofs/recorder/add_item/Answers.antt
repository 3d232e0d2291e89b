use Rattle.std.proofs.Common.{ap, ◌∙◌, sym}
use Rattle.upload_lanes.proofs.RecorderLaws.{added_last, added_one}
use Rattle.upload_lanes.specs.declared.sent.Sent.TheVariants.{One}
use Rattle.upload_lanes.proofs.recorder.add_item.Goals as goal

pub returns-in_ok-record_next-in-One-clause-recorded : goal.returns-in_ok-record_next-in-One-clause-recorded
returns-in_ok-record_next-in-One-clause-recorded g c = λ begun items was.
    added_one begun c.args.lane.now items was c.args.item (c.into_parts-message.result.0, c.into_parts-message.result.1) c.record_next.new.self (c.in-One.is ∙ ap One (sym c.into_parts-message.ensures.parts))
    c.in_ok-record_next-in-One.ensures.client c.in_ok-record_next-in-One.ensures.quota c.in_ok-record_next-in-One.ensures.kept c.in_ok-record_next-in-One.ensures.goes_on c.in_ok-record_next-in-One.ensures.session

pub returns-in-Last-clause-recorded : goal.returns-in-Last-clause-recorded
returns-in-Last-clause-recorded g c = λ begun items was. added_last begun c.args.lane.now items was c.args.item c.in-Last.ending c.in-Last.is

use Rattle.std.proofs.Common.{◌+◌, ◌*◌, ◌≤◌, ◌∙◌, ap, arith, length, subst}
use Rattle.crossbeam_queue.specs.Passes.{view}
use Rattle.lane_queue.specs.Items.{of_lane}
use Rattle.upload_lanes.proofs.GroupLaws.{put_first}
use Rattle.upload_lanes.proofs.SpreadLaws.{all_back, all_front, few_each, more_places, spread_append}
use Rattle.upload_lanes.specs.inside.Party.{TellsParcels}
use Rattle.upload_lanes.specs.inside.Sent.{parts, spread, AreSmall}
use Rattle.upload_lanes.proofs.party.join_upload.Goals as goal

pub returns-clause-told : goal.returns-clause-told
returns-clause-told g c =
    let done = c.join-upload.ensures in
    let split = c.reckon-left.ensures.rest in
    let got = (view c.args.taker.now).got in
    let put = view c.join-upload.result.putter in
    let places = c.args.queue.now.room in
    let size = c.args.handle.promise.size.value in
    let upload = c.join-upload.result.upload in
    let small : AreSmall size _ = subst (AreSmall size) split.1 done.put.small in
    let rest = few_each size split.0 (all_back (λ item. length (parts item.body) ≤ size) (of_lane put.lane got) split.0 small) in
    let fits = more_places places size (length split.0) (length (spread split.0)) (omega (arith, split.2, split.3)) rest in
    subst (λ lane. TellsParcels places c.args.handle.promise upload (of_lane lane got)) done.lane_is
    (record {
      told = (done.read, put_first size ((places + 1) * size) upload (spread put.put) (spread (of_lane put.lane got)) (spread split.0) (ap spread split.1 ∙ spread_append (of_lane put.lane got) split.0) fits done.put.front);
      small = all_front (λ item. length (parts item.body) ≤ size) (of_lane put.lane got) split.0 small;
    })

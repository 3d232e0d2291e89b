use Rattle.std.proofs.Common.{refl, ◌∙◌}
use Rattle.crossbeam_queue.specs.Passes.{view}
use Rattle.upload_lanes.proofs.UploaderLaws.{put_none, read_none}
use Rattle.upload_lanes.proofs.uploader.upload_all.Goals as goal

pub loop-init : goal.loop-init
loop-init g c =
    (tt, tt, c.requires.fresh.0, refl, read_none c.args.upload c.requires.untouched, put_none c.args.size (view c.args.putter) c.args.upload c.requires.fresh.1 c.requires.untouched)

pub returns-then-not-put_next : goal.returns-then-not-put_next
returns-then-not-put_next g c = record {
  of = c.put_next.ensures.of;
  lane_is = c.put_next.ensures.lane ∙ c.loop.invariant.3;
  read = c.put_next.ensures.read c.args.upload c.loop.invariant.4;
  put = c.if-not-put_next.ensures.put;
}

pub loop-preserved : goal.loop-preserved
loop-preserved g c = (tt, tt, c.put_next.ensures.of, c.put_next.ensures.lane ∙ c.loop.invariant.3, c.put_next.ensures.read c.args.upload c.loop.invariant.4, c.if-not-put_next.ensures.put)

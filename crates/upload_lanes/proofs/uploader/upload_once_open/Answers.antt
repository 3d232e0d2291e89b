use Rattle.std.proofs.Common.{refl}
use Rattle.crossbeam_queue.specs.Passes.{view}
use Rattle.upload_lanes.proofs.UploaderLaws.{nothing_put, put_none, read_none}
use Rattle.upload_lanes.proofs.uploader.upload_once_open.Goals as goal

pub returns-else-may_pass : goal.returns-else-may_pass
returns-else-may_pass g c = record {
  of = c.requires.fresh.0;
  lane_is = refl;
  read = read_none c.args.upload c.requires.untouched;
  put = nothing_put c.args.outlet.size (view c.args.outlet.putter).put c.args.upload (put_none c.args.outlet.size (view c.args.outlet.putter) c.args.upload c.requires.fresh.1 c.requires.untouched);
}

use Rattle.warp_run.proofs.FirstStopLaws.{masked}
use Rattle.warp_run.proofs.reporting.stops.mask_of.Goals as goal

pub returns : goal.returns
returns c = masked c.args.block c.fits-block.0

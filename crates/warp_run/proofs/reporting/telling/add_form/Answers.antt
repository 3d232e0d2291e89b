use Rattle.warp_run.proofs.BufferLaws.{adds_as, ◌>>◌}
use Rattle.warp_run.proofs.EncodedLaws.{form_line}
use Rattle.warp_run.proofs.reporting.telling.add_form.Goals as goal

pub returns : goal.returns
returns g c = adds_as (c.add_start.ensures >> c.add_pairs.ensures >> c.add.ensures) (form_line c.args.form.now)

use Rattle.std.proofs.Common.{decimal}
use Rattle.warp_run.specs.Report.{json_string}
use Rattle.warp_run.proofs.BufferLaws.{adds_as, ◌>>◌}
use Rattle.warp_run.proofs.EncodedLaws.{bare_line}
use Rattle.warp_run.proofs.reporting.telling.add_bare.Goals as goal

pub returns : goal.returns
returns g c =
    adds_as (c.add_with_number.ensures >> c.add.ensures >> c.add_quoted.ensures >> c.add-2.ensures)
    (bare_line c.args.method.now (decimal c.args.number) (json_string c.args.address.now))

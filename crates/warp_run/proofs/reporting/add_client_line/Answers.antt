use Rattle.std.proofs.Common.{append_assoc}
use Rattle.warp_run.proofs.BufferLaws.{adds_as, ◌>>◌}
use Rattle.warp_run.proofs.reporting.add_client_line.Goals as goal

pub returns : goal.returns
returns g c =
    adds_as
    (c.add.ensures >> c.add-2.ensures >> c.add_with_number.ensures >> c.add-3.ensures >> c.add_end.ensures >> c.add_with_number-2.ensures >> c.add_with_number-3.ensures >> c.add-4.ensures)
    (rw c.text.ensures (simp append_assoc))

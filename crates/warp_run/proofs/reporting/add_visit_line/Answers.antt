use Rattle.std.proofs.Common.{decimal}
use Rattle.visit_replay.specs.Conflict.{conflict_code}
use Rattle.warp_run.specs.Report.{standing_word}
use Rattle.warp_run.proofs.BufferLaws.{adds_as, ◌>>◌}
use Rattle.warp_run.proofs.ReportLaws.{conflicted}
use Rattle.warp_run.proofs.reporting.add_visit_line.Goals as goal

pub returns-in-Conflict : goal.returns-in-Conflict
returns-in-Conflict g c =
    adds_as
    (c.add_with_number.ensures >> c.add.ensures >> c.add-2.ensures >> c.add-in-Conflict.ensures >> c.add-in-Conflict-2.ensures >> c.add_with_number-in-Conflict.ensures >> c.add-in-Conflict-3.ensures)
    (rw (c.standing_word.ensures, c.conflict_code.ensures, c.in-Conflict.is)
    (conflicted (decimal c.args.visit) (standing_word c.args.standing) (conflict_code c.in-Conflict.kind) (decimal c.in-Conflict.at)))

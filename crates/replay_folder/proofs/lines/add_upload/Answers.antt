use Rattle.std.proofs.Common.{decimal}
use Rattle.warp_run.proofs.BufferLaws.{adds_as, ◌>>◌}
use Rattle.warp_run.specs.Report.{json_string, end_word}
use Rattle.replay_folder.specs.Names.{named_name}
use Rattle.replay_folder.proofs.LinesLaws.{taken_line}
use Rattle.replay_folder.proofs.lines.add_upload.Goals as goal

pub returns-in-Taken : goal.returns-in-Taken
returns-in-Taken g c =
    adds_as
    (c.add_name.ensures >> c.add-in-Taken.ensures >> c.add-in-Taken-2.ensures >> c.add_with_number.ensures >> c.add-in-Taken-3.ensures >> c.add_end.ensures >> c.add-in-Taken-4.ensures)
    (rw (c.text.ensures, c.in-Taken.is)
    (taken_line (json_string (named_name c.args.named.now)) c.in-Taken.client (decimal c.in-Taken.taken) (end_word c.in-Taken.end)))

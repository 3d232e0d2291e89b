use Rattle.std.proofs.Common.{[]}
use Rattle.warp_run.specs.Report.{report_with}
use Rattle.warp_run.proofs.BufferLaws.{unused_added, ◌>>◌}
use Rattle.replay_folder.specs.FolderReport.{upload_lines}
use Rattle.replay_folder.proofs.lines.report_folder.Goals as goal

pub returns : goal.returns
returns g c =
    let first = c.args.writer.now in
    c.finish.ensures first (report_with (upload_lines c.args.named.now c.args.ends.now) c.args.repaired.now)
    ((c.add_stop.ensures >> c.add_uploads.ensures >> c.add_repaired.ensures).behind first []
    (unused_added g.W.Sink.puts g.W.Write.contents first c.in_ok-buffer.buffer c.in_ok-buffer.ensures))

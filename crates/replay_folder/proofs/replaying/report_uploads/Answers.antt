use Rattle.byte_streams.specs.Reading.{WasRead}
use Rattle.byte_streams.specs.Writing.{writes_of}
use Rattle.replay_folder.proofs.ReplayedLaws.{reports_replayed}
use Rattle.replay_folder.proofs.replaying.report_uploads.Goals as goal

pub returns-clause-reported : goal.returns-clause-reported
returns-clause-reported g c =
    reports_replayed (g.O.OpensUploads.opened c.args.opener.now) (g.O.OpensUploads.listed c.args.opener.now) (WasRead g.F.Source.answers g.F.Read.remaining) c.args.site.now c.args.uploads
    (writes_of g.W.Sink.puts g.W.Write.contents c.args.writer.now c.report_replayed-report.new.writer) c.in_ok-replayed.replayed c.report_replayed-report.result c.in_ok-replayed.ensures c.report_replayed-report.ensures

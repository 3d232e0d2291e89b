use Rattle.std.proofs.Common.{Ok, Err, inl, inr, refl, subst}
use Rattle.byte_streams.specs.Reading.{WasRead}
use Rattle.byte_streams.specs.Writing.{writes_of}
use Rattle.replay_folder.proofs.ReplayLaws.{no_file, no_site}
use Rattle.replay_folder.proofs.replaying.replay_by.Goals as goal

pub returns-in-Err : goal.returns-in-Err
returns-in-Err g c =
    let opens = subst (λ path. g.O.OpensUploads.opened c.args.opener.now path (Err c.in-Err.error)) c.as_str.ensures c.in-Err.ensures in
    inl (
      record { puts_are = refl; contents_are = refl },
      rw c.status_unopened.ensures
          (no_file (g.O.OpensUploads.opened c.args.opener.now) (g.O.OpensUploads.listed c.args.opener.now) (WasRead g.F.Source.answers g.F.Read.remaining) c.args.asked (writes_of g.W.Sink.puts g.W.Write.contents c.args.writer.now c.args.writer.now) c.kind.result c.in-Err.error c.kind.ensures opens),
    )

pub returns-in-Err-site_of_file : goal.returns-in-Err-site_of_file
returns-in-Err-site_of_file g c =
    let opens = subst (λ path. g.O.OpensUploads.opened c.args.opener.now path (Ok c.in-Ok.file)) c.as_str.ensures c.in-Ok.ensures in
    inl (
      record { puts_are = refl; contents_are = refl },
      rw c.no_site_end.ensures
          (no_site (g.O.OpensUploads.opened c.args.opener.now) (g.O.OpensUploads.listed c.args.opener.now) (WasRead g.F.Source.answers g.F.Read.remaining) c.args.asked (writes_of g.W.Sink.puts g.W.Write.contents c.args.writer.now c.args.writer.now) c.in-Err-site_of_file.none c.in-Ok.file opens
          c.in-Err-site_of_file.ensures.refused),
    )

pub returns : goal.returns
returns g c =
    let opens = subst (λ path. g.O.OpensUploads.opened c.args.opener.now path (Ok c.in-Ok.file)) c.as_str.ensures c.in-Ok.ensures in
    inr (c.in-Ok-site_of_file.site, (c.in-Ok.file, opens, c.in-Ok-site_of_file.ensures.site), refl, c.replay_on.ensures)

use Rattle.std.proofs.lemmas.Result.{IfOk-weaker}
use Rattle.byte_streams.specs.Reading.{WasRead}
use Rattle.replay_folder.proofs.StretchLaws.{files_made}
use Rattle.replay_folder.proofs.drawn_files.draw_files.Goals as goal

pub returns-clause-files : goal.returns-clause-files
returns-clause-files g c =
    IfOk-weaker c.in_order.result _ _
    (λ files each. files_made (WasRead g.F.Source.answers g.F.Read.remaining) (g.O.OpensUploads.opened c.args.opener.now) c.args.quota c.args.names.now c.in_ok-shares.shares.items files.items c.in_ok-shares.ensures each)
    c.in_order.ensures.each

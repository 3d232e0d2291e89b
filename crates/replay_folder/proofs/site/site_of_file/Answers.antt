use Rattle.std.proofs.Common.{refl}
use Rattle.std.proofs.lemmas.Result.{IfOk-weaker, IfErr-weaker}
use Rattle.byte_streams.specs.Reading.{WasRead}
use Rattle.site_file.specs.Kept.{SaysNoFile}
use Rattle.replay_folder.specs.Replays.{SaysFileSite}
use Rattle.replay_folder.proofs.ReplayLaws.{site_given}
use Rattle.replay_folder.proofs.site.site_of_file.Goals as goal

pub read_site_file-site-requires-clause-fresh : goal.read_site_file-site-requires-clause-fresh
read_site_file-site-requires-clause-fresh g c κs within = rw c.in-Ok-over.ensures (record { answers = refl; place = refl; going = refl })

pub returns-clause-site : goal.returns-clause-site
returns-clause-site g c =
    let read = c.read_site_file-site in let back = c.into_reader-read in
    IfOk-weaker read.result _ _
    (λ site says. site_given (WasRead g.F.Source.answers g.F.Read.remaining) c.args.file back.result c.in-Ok-over.lines read.new.lines c.in-Ok-over.ensures read.ensures.reads back.ensures.read back.ensures.ends (SaysFileSite site) says)
    read.ensures.site

pub returns-clause-refused : goal.returns-clause-refused
returns-clause-refused g c =
    let read = c.read_site_file-site in let back = c.into_reader-read in
    IfErr-weaker read.result _ _
    (λ none says known. site_given (WasRead g.F.Source.answers g.F.Read.remaining) c.args.file back.result c.in-Ok-over.lines read.new.lines c.in-Ok-over.ensures read.ensures.reads back.ensures.read back.ensures.ends (λ input ending. SaysNoFile input ending none) says)
    read.ensures.refused

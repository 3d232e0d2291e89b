use Rattle.byte_streams.specs.Reading.{WasRead}
use Rattle.review_server.proofs.Beginning.{review_begins}
use Rattle.review_server.proofs.opening.review_by.Goals as goal

pub returns-clause-review : goal.returns-clause-review
returns-clause-review g c = λ sound.
    review_begins g.G.GrowingFile.seen g.G.GrowingFile.durable g.G.GrowingFile.lost (g.O.OpensUploads.opened c.args.opener.now)
    (g.O.OpensUploads.listed c.args.opener.now) (WasRead {R = g.row.F.Denot} g.F.Source.answers g.F.Read.remaining) c.args.uploads
    c.in_ok-opened.opened.site c.in_ok-replayed.replayed c.new.result c.in_ok-replayed.ensures c.new.ensures.replayed
    (c.new.ensures.shown (c.in_ok-opened.ensures sound))

use Rattle.collect_server.proofs.CollectorRounds.{collector_round, round_few, round_told}
use Rattle.collect_server.proofs.serving.Serving.round.Goals as goal

pub returns-clause-round : goal.returns-clause-round
returns-clause-round g c =
    collector_round g.F.GrowingFile.seen g.F.GrowingFile.durable g.F.GrowingFile.lost g.D.Folder.lies g.D.Folder.known _ _ _ _ c.in_ok-round.ensures.round

pub returns-clause-told : goal.returns-clause-told
returns-clause-told g c = λ kept.
    round_told g.F.GrowingFile.seen g.F.GrowingFile.durable g.F.GrowingFile.lost g.D.Folder.lies g.D.Folder.known kept _ _ _ _ (returns-clause-round g c)

pub returns-clause-few : goal.returns-clause-few
returns-clause-few g c =
    round_few g.F.GrowingFile.seen g.F.GrowingFile.durable g.F.GrowingFile.lost g.D.Folder.lies g.D.Folder.known _ _ _ _ (returns-clause-round g c)

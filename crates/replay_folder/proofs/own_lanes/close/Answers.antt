use Rattle.std.proofs.Common.{IfSome, sym, subst}
use Rattle.byte_streams.specs.Reading.{WasRead}
use Rattle.warp_server.specs.program.Callers.{IsReadSo}
use Rattle.replay_folder.proofs.own_lanes.close.Goals as goal

pub returns-in-Some : goal.returns-in-Some
returns-in-Some g c =
    subst (λ upload. IfSome upload (IsReadSo (WasRead g.F.Source.answers g.F.Read.remaining))) (sym c.in-Some.is)
    (c.into_reader-source.result, (c.into_reader-source.ensures.read, c.into_reader-source.ensures.ends))

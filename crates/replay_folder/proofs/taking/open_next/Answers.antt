use Rattle.std.proofs.Common.{inr, sym, subst}
use Rattle.byte_streams.specs.Reading.{WasRead}
use Rattle.replay_folder.specs.inside.{Closes}
use Rattle.replay_folder.proofs.taking.open_next.Goals as goal

pub returns-clause-made : goal.returns-clause-made
returns-clause-made g c =
    let next = c.next_round.ensures in
    inr (subst (Closes (WasRead g.F.Source.answers g.F.Read.remaining) c.args.quota c.args.round) (sym next.taken) c.in_ok-taken.ensures, next.held, next.uploads)

use Rattle.std.proofs.Common.{inr, sym, subst}
use Rattle.byte_streams.specs.Reading.{WasRead}
use Rattle.replay_folder.specs.inside.Stretch.{ClosesTaken}
use Rattle.replay_folder.proofs.taken_round.with_room.Goals as goal

pub returns-clause-made : goal.returns-clause-made
returns-clause-made g c =
    let next = c.next_round.ensures in let own = c.new.ensures in
    inr (
      subst (ClosesTaken (WasRead g.F.Source.answers g.F.Read.remaining) c.args.round) (sym next.taken) c.in_ok-close_taken.ensures,
      record { held = next.held; uploads = next.uploads; clients = own.clients; stop = own.stop },
    )

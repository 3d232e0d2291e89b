use Rattle.std.proofs.Common.{arith}
use Rattle.std.proofs.lemmas.Bool.{false≢true}
use Rattle.visit_replay.proofs.board.Board.begin.Goals as goal

pub reset-requires : goal.reset-requires
reset-requires c = record {
  texts = omega (arith, c.requires.few, c.requires.wide.texts);
  turned = omega (arith, c.requires.few, c.requires.wide.turned);
}

pub returns-clause-on : goal.returns-clause-on
returns-clause-on c =
    let room = c.reset.ensures.room in
    record {
      wide = record {
        texts = omega (arith, c.requires.wide.texts, room.0);
        turned = omega (arith, c.requires.wide.turned, room.1);
        senders = c.requires.wide.senders;
        known = c.requires.wide.known;
      };
      few = c.requires.few;
      within = omega arith;
      held = c.reset.ensures.held;
      listed = λ is. absurd (false≢true is);
    }

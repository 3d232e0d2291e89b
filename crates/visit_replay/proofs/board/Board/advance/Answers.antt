use Rattle.std.proofs.Common.{arith}
use Rattle.visit_replay.proofs.board.Board.advance.Goals as goal

pub returns-clause-on : goal.returns-clause-on
returns-clause-on c =
    let so_far = c.requires.on in
    let room = c.take_all.ensures.room in
    record {
      wide = record {
        texts = omega (arith, so_far.wide.texts, room.0);
        turned = omega (arith, so_far.wide.turned, room.1);
        senders = so_far.wide.senders;
        known = so_far.wide.known;
      };
      few = so_far.few;
      within = c.requires.there;
      held = c.take_all.ensures.held c.args.trail.now.page c.args.trail.now.within so_far.held;
      listed = so_far.listed;
    }

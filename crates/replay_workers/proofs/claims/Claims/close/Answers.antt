use Rattle.std.proofs.Common.{arith}
use Rattle.replay_workers.proofs.Gathering.{word_claimed, word_few, lists_end}
use Rattle.replay_workers.proofs.claims.Claims.close.Goals as goal

pub returns-clause-claimed : goal.returns-clause-claimed
returns-clause-claimed c =
    word_claimed _ _ _ _ _ _ _ _ c.self.view_is c.gather-pass.ensures (omega (arith, c.requires.all)) c.close_with-closed.ensures.values.2 c.word-word.ensures

pub returns-clause-few : goal.returns-clause-few
returns-clause-few c =
    word_few _ _ _ _ _ _ _ _ c.self.view_is c.gather-pass.ensures (omega (arith, c.requires.all)) c.close_with-closed.ensures.values.2 c.word-word.ensures

pub returns-clause-ends : goal.returns-clause-ends
returns-clause-ends c =
    lists_end _ _ _ _ _ _ _ _ c.self.view_is c.gather-pass.ensures (omega (arith, c.requires.all)) c.close_with-closed.ensures.values.2 c.word-word.ensures

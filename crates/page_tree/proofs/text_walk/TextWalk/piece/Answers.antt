use Rattle.std.proofs.Common.{◌∙◌, arith}
use Rattle.page_tree.proofs.SideBySide.{refilled}
use Rattle.page_tree.proofs.text_walk.TextWalk.piece.Goals as goal

pub loop-self-preserved : goal.loop-self-preserved
loop-self-preserved c =
    let self = c.loop-self.self in
    refilled self.page.now self.piece.now c.as_bytes-self.result.now self.next self.end (grind (arith, c.loop-self-test.ensures, c.loop-self-test.true)) c.if-self.true (c.as_bytes-self.ensures.value ∙ c.words_of.ensures)
    ∙ c.loop-self.invariant

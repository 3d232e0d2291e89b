use Rattle.std.proofs.Common.{append_assoc}
use Rattle.page_tree.proofs.LoopLaws.{range_step}
use Rattle.page_tree.proofs.page.Page.text_of.Goals as goal

pub loop-below-preserved : goal.loop-below-preserved
loop-below-preserved c =
    rw (c.in_ok-push_str.ensures.bytes, c.words_of.ensures, append_assoc)
    (rw (range_step c.loop-below.below c.end_of-below-end.result c.loop-below-test.true) at c.loop-below.invariant)

use Rattle.visit_replay.proofs.Numbered.{under_from, not_under}
use Rattle.visit_replay.proofs.conflicts.is_under.Goals as goal

pub returns-then-under-number : goal.returns-then-under-number
returns-then-under-number c =
    under_from c.args.page.now c.args.above c.args.number c.nodes_under-under.result.start c.nodes_under-under.result.end c.nodes_under-under.ensures.under c.requires.there
    (c.nodes_under-under.ensures.within c.requires.above).1 c.if-under-number.true

pub returns-else-under-number : goal.returns-else-under-number
returns-else-under-number c =
    not_under c.args.page.now c.args.above c.args.number c.nodes_under-under.result.start c.nodes_under-under.result.end c.nodes_under-under.ensures.under c.requires.there
    (c.nodes_under-under.ensures.within c.requires.above).1 c.if-under-number.false

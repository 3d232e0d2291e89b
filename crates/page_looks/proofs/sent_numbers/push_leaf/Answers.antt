use Rattle.std.proofs.Common.{subst}
use Rattle.page_tree.specs.Number.{place_numbered}
use Rattle.page_looks.specs.inside.Shapes.{told_texts}
use Rattle.page_looks.specs.inside.Numbering.{PushesTexts}
use Rattle.page_looks.proofs.NumberingLaws.{texts_none}
use Rattle.page_looks.proofs.SentLaws.{text_sends}
use Rattle.page_looks.proofs.sent_numbers.push_leaf.Goals as goal

pub returns-in-None : goal.returns-in-None
returns-in-None c =
    subst (λ ps. PushesTexts c.args.below.now c.args.own.now c.args.own.now c.args.key.now.items c.args.key.now.items (told_texts ps))
    (text_sends c.args.fresh.now c.args.page.now (place_numbered c.args.number c.args.page.now) c.in-None.ensures)
    (texts_none c.args.below.now c.args.own.now c.args.key.now.items)

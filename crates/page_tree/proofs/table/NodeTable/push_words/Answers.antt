use Rattle.page_tree.proofs.RowLaws.{words_added}
use Rattle.page_tree.proofs.table.NodeTable.push_words.Goals as goal

pub invariant_of-self-2 : goal.invariant_of-self-2
invariant_of-self-2 c =
    rw (c.push-2.ensures.items, c.unwrap.ensures, c.in_ok-reserve.ensures.items, c.in_ok-push.ensures.ok)
    (words_added c.self.inside.texts c.self.inside.attributes c.self.inside.rows.items c.self.inside.elements.items c.self.invariant c.args.spot c.args.text.now
    c.of_text.result c.of_text.ensures.spot c.of_text.ensures.text).1

pub returns : goal.returns
returns c =
    rw (c.push-2.ensures.items, c.unwrap.ensures, c.in_ok-reserve.ensures.items, c.in_ok-push.ensures.ok, ← c.self.view_is)
    (words_added c.self.inside.texts c.self.inside.attributes c.self.inside.rows.items c.self.inside.elements.items c.self.invariant c.args.spot c.args.text.now
    c.of_text.result c.of_text.ensures.spot c.of_text.ensures.text).0

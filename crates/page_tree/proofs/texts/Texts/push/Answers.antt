use Rattle.std.proofs.Common.{string_bytes, length-append}
use Rattle.page_tree.proofs.Cutting.{cut_added}
use Rattle.page_tree.proofs.texts.Texts.push.Goals as goal

pub invariant_of-self-2 : goal.invariant_of-self-2
invariant_of-self-2 c =
    rw (c.push.ensures.items, c.unwrap.ensures, c.in_ok-reserve.ensures.items, c.in_ok-end.ensures, c.as_str.ensures.value, c.in_ok-push_str.ensures.bytes, ← length-append (string_bytes c.self.inside.joined) c.args.text.now)
    (cut_added (string_bytes c.self.inside.joined) c.args.text.now 0 c.self.inside.ends.items c.utf8.text c.self.invariant).1

pub returns-clause-ok : goal.returns-clause-ok
returns-clause-ok c =
    rw (c.push.ensures.items, c.unwrap.ensures, c.in_ok-reserve.ensures.items, c.in_ok-end.ensures, c.as_str.ensures.value, c.in_ok-push_str.ensures.bytes, ← length-append (string_bytes c.self.inside.joined) c.args.text.now, ← c.self.view_is)
    (cut_added (string_bytes c.self.inside.joined) c.args.text.now 0 c.self.inside.ends.items c.utf8.text c.self.invariant).0

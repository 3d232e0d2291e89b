use Rattle.std.proofs.Common.{◌≡◌, ◌↔◌, length}
use Rattle.page_tree.specs.Look.{text_at}
use Rattle.page_tree.specs.Number.{place_numbered}
use Rattle.page_tree.specs.inside.TextWalk.{unread_text}
use Rattle.page_tree.proofs.page.Page.has_text_of.Given as goal

abbrev pub invariant-loop-left : goal.invariant-loop-left
invariant-loop-left l = (unread_text l.left ≡ unread_text l.right)
    ↔ (text_at (place_numbered l.number l.self) l.self ≡ text_at (place_numbered l.other_number l.other) l.other)

abbrev pub decreases-loop-left : goal.decreases-loop-left
decreases-loop-left l = length (unread_text l.left)

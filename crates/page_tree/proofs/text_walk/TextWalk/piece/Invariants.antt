use Rattle.std.proofs.Common.{◌≡◌, ◌-◌}
use Rattle.page_tree.specs.inside.TextWalk.{unread_text}
use Rattle.page_tree.proofs.text_walk.TextWalk.piece.Given as goal

abbrev pub invariant-loop-self : goal.invariant-loop-self
invariant-loop-self l = unread_text l.self ≡ unread_text l.initial.self

abbrev pub decreases-loop-self : goal.decreases-loop-self
decreases-loop-self l = l.self.end - l.self.next

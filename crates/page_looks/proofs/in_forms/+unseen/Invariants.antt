use Rattle.std.proofs.Common.{◌+◌, ◌*◌, ◌-◌}
use Rattle.page_tree.specs.Limits.{nodes}
use Rattle.page_looks.proofs.FormLaws.{UnseenSoFar}
use Rattle.page_looks.proofs.in_forms.+unseen.Given as goal

abbrev pub decreases-push_unseen : goal.decreases-push_unseen
decreases-push_unseen l = 2 * (nodes l.page.now - l.number) + 1

abbrev pub decreases-push_under : goal.decreases-push_under
decreases-push_under l = 2 * (nodes l.page.now - l.number)

abbrev pub invariant-push_under-loop-i : goal.invariant-push_under-loop-i
invariant-push_under-loop-i l = UnseenSoFar l.page l.number l.covered l.all l.initial.key.items l.key.items l.child l._i

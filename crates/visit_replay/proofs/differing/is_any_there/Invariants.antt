use Rattle.std.proofs.Common.{◌≡◌, All, None, take}
use Rattle.visit_replay.proofs.differing.is_any_there.Given as goal

abbrev pub invariant-loop-mark : goal.invariant-loop-mark
invariant-loop-mark l = All (λ mark. mark ≡ None) (take l.mark-index l.marks)

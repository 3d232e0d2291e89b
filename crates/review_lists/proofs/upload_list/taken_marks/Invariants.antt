use Rattle.std.proofs.Common.{◌≡◌, map, take}
use Rattle.review_lists.specs.Attention.{was_taken}
use Rattle.review_lists.proofs.upload_list.taken_marks.Given as goal

abbrev pub invariant-loop-end : goal.invariant-loop-end
invariant-loop-end l = l.marks.items ≡ map was_taken (take l.end-index l.ends)

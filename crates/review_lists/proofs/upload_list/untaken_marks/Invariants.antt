use Rattle.std.proofs.Common.{◌≡◌, map, not, take}
use Rattle.replay_folder.specs.declared.ends.UploadEnd.{UploadEnd}
use Rattle.review_lists.specs.Attention.{was_taken}
use Rattle.review_lists.proofs.upload_list.untaken_marks.Given as goal

abbrev pub invariant-loop-end : goal.invariant-loop-end
invariant-loop-end l = l.marks.items ≡ map (λ (end : UploadEnd). not (was_taken end)) (take l.end-index l.ends)

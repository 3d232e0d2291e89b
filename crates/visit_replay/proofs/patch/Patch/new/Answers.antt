use Rattle.std.proofs.Common.{rules, sym}
use Rattle.std.specs.Str.{bytes_eq}
use Rattle.std.proofs.lemmas.List.Sorted.{answers_always, list_any-IsPermutation}
use Rattle.visit_replay.proofs.Sorting.{bytes_are_ordered}
use Rattle.visit_replay.proofs.patch.Patch.new.Goals as goal

pub invariant_of-result : goal.invariant_of-result
invariant_of-result c = c.sort_unstable_by.ensures.sorted _ bytes_are_ordered (answers_always _ _ _ (λ f a r g called. search rules))

pub returns : goal.returns
returns c = λ address. sym (list_any-IsPermutation (bytes_eq address) _ _ c.sort_unstable_by.ensures.permutation)

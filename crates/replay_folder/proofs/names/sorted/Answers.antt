use Rattle.std.proofs.Common.{rules}
use Rattle.std.proofs.lemmas.List.Sorted.{answers_always}
use Rattle.visit_replay.proofs.Sorting.{bytes_are_ordered}
use Rattle.replay_folder.proofs.names.sorted.Goals as goal

pub returns-clause-sorted : goal.returns-clause-sorted
returns-clause-sorted c = c.sort_unstable_by.ensures.sorted _ bytes_are_ordered (answers_always _ _ _ (λ f a r g called. search rules))

use Rattle.std.proofs.Common.{ℕ, List, drop}
use Rattle.replay_folder.specs.inside.{told_in}
use Rattle.replay_folder.proofs.SummaryLaws.{ToldSoFar}
use Rattle.replay_folder.proofs.summaries.last_of_all.Given as goal

abbrev pub invariant-loop-end : goal.invariant-loop-end
invariant-loop-end l = (client : List ℕ) → ToldSoFar l.ends (drop l.end-index l.ends) client (told_in l.last client)

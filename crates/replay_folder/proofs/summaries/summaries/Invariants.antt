use Rattle.std.proofs.Common.{◌≡◌, ◌++◌, map}
use Rattle.replay_folder.specs.FolderReport.{last_summary}
use Rattle.replay_folder.proofs.summaries.summaries.Given as goal

abbrev pub invariant-loop-client : goal.invariant-loop-client
invariant-loop-client g l = l.all.items ++ map (last_summary l.ends) l.client-iterator ≡ map (last_summary l.ends) l.initial.client-iterator

use Rattle.std.proofs.Common.{◌≡◌, ◌++◌, drop, map}
use Rattle.replay_folder.specs.Names.{in_folder}
use Rattle.replay_folder.specs.declared.names.Named.TheVariants.{File}
use Rattle.replay_folder.proofs.names.add_names.Given as goal

abbrev pub invariant-loop-name : goal.invariant-loop-name
invariant-loop-name l = l.all.items ++ map (λ name. File (in_folder l.folder name)) (drop l.name-index l.names) ≡ l.initial.all.items ++ map (λ name. File (in_folder l.folder name)) l.names

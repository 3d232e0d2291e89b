use Rattle.std.proofs.Common.{◌≡◌, ◌++◌, map}
use Rattle.replay_folder.specs.inside.{held_end}
use Rattle.replay_folder.proofs.closing.tell_all.Given as goal

abbrev pub invariant-loop-one : goal.invariant-loop-one
invariant-loop-one g l =
    l.ends.items ++ map (held_end l.gathered) l.one-iterator.rest.items
    ≡ l.fn.ends.items ++ map (held_end l.gathered) l.fn.held.items

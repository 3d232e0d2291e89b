use Rattle.std.proofs.Common.{◌≡◌, ◌≤◌, ◌+◌, ◌++◌, length, drop, map}
use Rattle.std.specs.List.{zip}
use Rattle.std.specs.Vec.{vec_capacity}
use Rattle.std.specs.Vec.Iter.{into_iter_items}
use Rattle.replay_workers.specs.inside.Ordered.{as_done}
use Rattle.replay_workers.proofs.in_order.beside_numbers.Given as goal

abbrev pub invariant-loop-one : goal.invariant-loop-one
invariant-loop-one l = record {
  listed : l.done.items ++ map as_done (zip (drop l.one-index l.all) (into_iter_items l.own))
      ≡ map as_done (zip l.all (into_iter_items l.initial.own));
  room : length l.done.items + length (drop l.one-index l.all) ≤ vec_capacity l.done;
}

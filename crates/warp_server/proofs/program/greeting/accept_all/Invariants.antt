use Rattle.std.proofs.Common.{◌≡◌, ◌≤◌, length}
use Rattle.std.specs.List.{FoldsTo}
use Rattle.std.specs.Vec.{vec_capacity}
use Rattle.warp_server.proofs.program.greeting.accept_all.Given as goal

abbrev pub invariant-loop : goal.invariant-loop
invariant-loop g l = record {
  count : length l.readers.items ≡ l.counter;
  room : l.fn.lanes ≤ vec_capacity l.readers;
  brought : FoldsTo g.C.Callers.brings l.fn.callers l.readers.items l.callers;
}

use Rattle.std.proofs.Common.{◌≡◌, ◌+◌, ◌≤◌, ◌++◌, length, map}
use Rattle.std.specs.List.{AllByRecursion}
use Rattle.std.specs.Vec.{vec_capacity}
use Rattle.warp_server.specs.program.Callers.{IsGreeted}
use Rattle.warp_server.proofs.program.greeting.greet_all.Given as goal

abbrev pub invariant-loop-reader : goal.invariant-loop-reader
invariant-loop-reader g l = record {
  count : length l.uploads.items + length l.reader-iterator.rest.items ≡ length l.fn.readers.items;
  room : length l.uploads.items + length l.reader-iterator.rest.items ≤ vec_capacity l.uploads;
  each : AllByRecursion IsGreeted l.uploads.items;
  readers : map (λ upload. upload.lines.first) l.uploads.items ++ l.reader-iterator.rest.items ≡ l.fn.readers.items;
}

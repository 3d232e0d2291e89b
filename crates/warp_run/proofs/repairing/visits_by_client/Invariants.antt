use Rattle.std.proofs.Common.{◌≡◌, ◌++◌, map}
use Rattle.std.specs.List.{AllByRecursion}
use Rattle.std.specs.List.Sorted.{IsStrictlyIncreasing}
use Rattle.warp_run.specs.inside.{client_visits, lane_visits}
use Rattle.warp_run.proofs.repairing.visits_by_client.Given as goal

abbrev pub invariant-loop-client : goal.invariant-loop-client
invariant-loop-client g l = record {
  visits : map client_visits l.all.items ++ map lane_visits l.client-iterator ≡ map lane_visits l.initial.client-iterator;
  ascend : AllByRecursion (λ one. IsStrictlyIncreasing (map (λ visit. visit.number) one.visits.now)) l.all.items;
}

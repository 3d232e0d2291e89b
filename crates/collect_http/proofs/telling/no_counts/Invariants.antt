use Rattle.std.proofs.Common.{◌≡◌, ◌++◌, drop, decimal, Some}
use Rattle.std.specs.List.{flat_map}
use Rattle.collect_http.specs.Telling.{member_of}
use Rattle.collect_http.proofs.telling.no_counts.Given as goal

abbrev pub invariant-loop-visit : goal.invariant-loop-visit
invariant-loop-visit l = l.counts.items ++ flat_map (member_of (λ _. Some (decimal 0))) (drop l.visit-index l.visits) ≡ flat_map (member_of (λ _. Some (decimal 0))) l.visits

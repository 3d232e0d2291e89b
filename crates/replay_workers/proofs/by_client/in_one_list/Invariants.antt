use Rattle.std.proofs.Common.{◌≡◌, ◌++◌, map, drop}
use Rattle.replay_workers.specs.inside.Clients.{visits_of_all}
use Rattle.replay_workers.proofs.by_client.in_one_list.Given as goal

abbrev pub invariant-loop-visits : goal.invariant-loop-visits
invariant-loop-visits l = map (λ visit. visit.now) l.all.items ++ visits_of_all (drop l.visits-index l.clients) ≡ visits_of_all l.clients

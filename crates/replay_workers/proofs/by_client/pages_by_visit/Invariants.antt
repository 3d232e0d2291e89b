use Rattle.std.proofs.Common.{◌≡◌, ◌++◌, map, drop}
use Rattle.std.specs.List.{flat_map}
use Rattle.own_pages.specs.OwnPages.{own_page_at}
use Rattle.replay_workers.specs.inside.Clients.{plain_page, own_pages_of}
use Rattle.replay_workers.proofs.by_client.pages_by_visit.Given as goal

abbrev pub invariant-loop-one : goal.invariant-loop-one
invariant-loop-one l =
    map plain_page l.all.items ++ flat_map (λ one. own_pages_of (own_page_at l.own) one.client.now one.visits.now) (drop l.one-index l.clients)
    ≡ flat_map (λ one. own_pages_of (own_page_at l.own) one.client.now one.visits.now) l.clients

use Rattle.std.proofs.Common.{◌≡◌, ◌≤◌, ◌+◌, ◌++◌, length, map, drop}
use Rattle.std.specs.Vec.{vec_capacity}
use Rattle.own_pages.specs.OwnPages.{own_page_at}
use Rattle.replay_workers.specs.inside.Clients.{plain_page, own_pages_of}
use Rattle.replay_workers.proofs.by_client.add_pages.Given as goal

abbrev pub invariant-loop-visit : goal.invariant-loop-visit
invariant-loop-visit l = record {
  listed : map plain_page l.all.items ++ own_pages_of (own_page_at l.own) l.client (drop l.visit-index l.visits) ≡ map plain_page l.initial.all.items ++ own_pages_of (own_page_at l.own) l.client l.visits;
  room : length l.all.items + length (drop l.visit-index l.visits) ≤ vec_capacity l.all;
}

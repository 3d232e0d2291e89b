use Rattle.std.proofs.Common.{◌≡◌, ◌≤◌, ◌+◌, ◌++◌, length, map, drop}
use Rattle.std.specs.Vec.{vec_capacity}
use Rattle.replay_workers.specs.inside.Clients.{plain_page, page_at}
use Rattle.replay_workers.proofs.in_order.pages_in_order.Given as goal

abbrev pub invariant-loop-one : goal.invariant-loop-one
invariant-loop-one l = record {
  listed : map plain_page l.pages.items ++ map (λ one. page_at (map plain_page l.own_pages) one.number) (drop l.one-index l.all)
      ≡ map (λ one. page_at (map plain_page l.own_pages) one.number) l.all;
  room : length l.pages.items + length (drop l.one-index l.all) ≤ vec_capacity l.pages;
}

use Rattle.std.proofs.Common.{◌≡◌, ◌++◌, drop, map}
use Rattle.std.specs.List.{flat_map}
use Rattle.review_lists.specs.Overview.{front_entry}
use Rattle.review_lists.proofs.front_list.add_front_entries.Given as goal

abbrev pub invariant-loop-front : goal.invariant-loop-front
invariant-loop-front g l = let entries = front_entry l.logs l.desk (map (λ client. client.now) l.clients) in
    l.out.items ++ flat_map entries (drop l.front-index l.fronts) ≡ l.initial.out.items ++ flat_map entries l.fronts

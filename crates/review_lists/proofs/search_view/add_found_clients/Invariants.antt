use Rattle.std.proofs.Common.{◌≡◌, ◌++◌, drop, map}
use Rattle.std.specs.List.{flat_map}
use Rattle.review_pieces.specs.Pieces.{found_client_html}
use Rattle.review_lists.proofs.search_view.add_found_clients.Given as goal

abbrev pub invariant-loop-name : goal.invariant-loop-name
invariant-loop-name l =
    l.out.items ++ flat_map found_client_html (map (λ name. name.now) (drop l.name-index l.names))
    ≡ l.initial.out.items ++ flat_map found_client_html (map (λ name. name.now) l.names)

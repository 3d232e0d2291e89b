use Rattle.std.proofs.Common.{◌≡◌, map, take}
use Rattle.review_lists.specs.SearchView.{found_names}
use Rattle.review_lists.proofs.search_view.found_names.Given as goal

abbrev pub invariant-loop-client : goal.invariant-loop-client
invariant-loop-client l = map (λ name. name.now) l.names.items ≡ found_names l.sought.text.now (take l.client-index l.clients)

use Rattle.std.proofs.Common.{◌≡◌, map, take}
use Rattle.review_lists.specs.Overview.{client_names}
use Rattle.review_lists.proofs.front_list.clients_of.Given as goal

abbrev pub invariant-loop-summary : goal.invariant-loop-summary
invariant-loop-summary l = map (λ client. client.now) l.clients.items ≡ client_names (take l.summary-index l.summaries)

use Rattle.std.proofs.Common.{◌++◌, map, sym, ap, ◌∙◌, append-nil}
use Rattle.warp_run.specs.inside.{client_visits, lane_visits}
use Rattle.warp_run.proofs.repairing.visits_by_client.Goals as goal

pub returns-clause-visits : goal.returns-clause-visits
returns-clause-visits g c =
    let listed = map client_visits c.loop-client.all.items in
    sym (append-nil listed)
    ∙ ap (λ rest. listed ++ map lane_visits rest) (sym c.in-None.ensures.steps.0)
    ∙ c.loop-client.invariant.visits
    ∙ ap (map lane_visits) (c.into_iter-client-iterator.ensures.into_iter_gives ∙ c.iter-client-items.ensures.rest)

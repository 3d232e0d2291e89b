use Rattle.std.proofs.Common.{◌++◌, map, sym, ap, ◌∙◌, append-nil}
use Rattle.std.proofs.lemmas.Simd.{map-map}
use Rattle.warp_run.proofs.repairing.kept_visits.Goals as goal

pub returns : goal.returns
returns g c =
    let listed = map (λ visits. visits.now) c.loop-lane.all.items in
    sym (append-nil listed)
    ∙ ap (λ rest. listed ++ map (λ lane. lane.log.log.visits) rest) (sym c.in-None.ensures.steps.0)
    ∙ c.loop-lane.invariant
    ∙ ap (map (λ lane. lane.log.log.visits)) (c.into_iter-lane-iterator.ensures.into_iter_gives ∙ c.values-lane-items.ensures.rest)
    ∙ map-map (λ lane. lane.log.log.visits) (λ entry. entry.1) c.args.clients.now.entries

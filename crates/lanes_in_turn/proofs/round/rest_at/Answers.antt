use Rattle.std.proofs.Common.{◌≡◌, None, Some, ap, ◌∙◌}
use Rattle.indexmap.specs.IndexMap.{set_value_at}
use Rattle.lanes_in_turn.specs.Round.{without_lane}
use Rattle.lanes_in_turn.proofs.round.rest_at.Goals as goal

pub returns-in-Some-clause-entries : goal.returns-in-Some-clause-entries
returns-in-Some-clause-entries g c = λ lane at.
    let entries = c.args.clients.now.entries in
    let both : Some c.in-Some.lane.now ≡ Some lane = c.in-Some.ensures.value ∙ at in
    let same : c.in-Some.lane.now ≡ lane = cc in
    ap (set_value_at entries c.args.k) c.rest.ensures ∙ ap (λ l. set_value_at entries c.args.k (without_lane l)) same

pub returns-in_default-clause-entries : goal.returns-in_default-clause-entries
returns-in_default-clause-entries g c = λ lane at.
    let both : None ≡ Some lane = c.in_default.ensures.value ∙ at in
    cc

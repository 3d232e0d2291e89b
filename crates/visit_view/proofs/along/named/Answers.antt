use Rattle.std.proofs.Common.{◌≡◌, ◌++◌, length, take, flat_map, ap, ◌∙◌}
use Rattle.visit_view.specs.Deciding.{below_of, more_along, one_at}
use Rattle.visit_view.proofs.Naming.{names_passing}
use Rattle.visit_view.proofs.along.named.Goals as goal

pub returns : goal.returns
returns c =
    let found = c.args.found.now in
    let one = one_at found.client.now found.visits.now found.docket.now in
    let places = c.args.places.now in
    let more = more_along c.text.result.now (length places) in
    let front : c.add_named.new.out.items ≡ flat_map one (take 100 places) =
    c.in_ok-add_named.ensures ∙ ap (λ text. text ++ flat_map one c.first_of.result.now) c.new-items.ensures.items ∙ ap (flat_map one) c.first_of.ensures in
    c.in_ok-add_more.ensures ∙ ap (λ text. text ++ more) front ∙ ap (λ client. flat_map one (take 100 places) ++ more_along client (length places)) c.text.ensures
    ∙ names_passing found.client.now found.visits.now found.docket.now places (below_of found.docket.now found.number) c.requires

use Rattle.std.proofs.Common.{◌≡◌, List, ℕ, ◌++◌, map, option_map, sym, ap, ◌∙◌}
use Rattle.std.specs.Borrow.{Bor}
use Rattle.std.specs.Option.{option_to_list}
use Rattle.review_state.specs.Fronts.{front_of, front_at, front_with}
use Rattle.review_state.proofs.Steps.{mapped_more, name_at}
use Rattle.review_state.proofs.fronts.fronts_of.Goals as goal

pub loop-place-preserved : goal.loop-place-preserved
loop-place-preserved c =
    let place = c.loop-place.place in
    let desk = c.args.desk.now in
    let names = map (λ (client : Bor (List ℕ)). client.now) c.args.clients.now in
    let visit = c.front_of-visit.result in
    let name = name_at c.args.clients.now place c.index-clients-place.result c.loop-place-test.true c.index-clients-place.is in
    let is : front_at desk names place ≡ option_map (front_with place) visit =
    ap (λ client. option_map (front_with place) (front_of desk client)) name
    ∙ ap (option_map (front_with place)) (sym c.front_of-visit.ensures) in
    c.in_ok-push_front.ensures
    ∙ ap (λ fronts. fronts ++ option_to_list (option_map (front_with place) visit)) c.loop-place.invariant
    ∙ sym (mapped_more (front_at desk names) place (option_map (front_with place) visit) is)

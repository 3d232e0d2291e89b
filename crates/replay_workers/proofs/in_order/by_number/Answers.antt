use Rattle.std.proofs.Common.{◌≡◌, ◌<◌, List, length, map, zip, All, subst, sym, ap, ◌∙◌, arith}
use Rattle.std.specs.Borrow.{Bor}
use Rattle.std.proofs.lemmas.List.{length-map}
use Rattle.client_log.specs.declared.visit.Visit.{Visit}
use Rattle.visit_replay.proofs.Places.{written_back}
use Rattle.replay_workers.specs.inside.Ordered.{as_done}
use Rattle.replay_workers.specs.inside.Shares.{PlacesThese}
use Rattle.replay_workers.specs.declared.share.Done.{Done}
use Rattle.replay_workers.proofs.Ordering.{done_within, numbers_within, placed_again}
use Rattle.replay_workers.proofs.in_order.by_number.Goals as goal

pub place-requires : goal.place-requires
place-requires c =
    let visits : List Visit = map (λ (visit : Bor Visit). visit.now) c.args.visits.now in
    let all = c.args.all.now in
    let places = length c.as_mut_slice.result.now in
    let size : length visits ≡ places = omega (arith, length-map c.args.visits.now (λ (visit : Bor Visit). visit.now), c.in_ok-outcomes.ensures, ap length c.as_mut_slice.ensures.value) in
    subst (All (λ (d : Done). d.number < places)) (sym c.in_ok-done.ensures) (done_within places all c.args.own.items (numbers_within visits places all size c.requires.all.each))

pub returns : goal.returns
returns c = λ site pages is.
    let visits : List Visit = map (λ (visit : Bor Visit). visit.now) c.args.visits.now in
    let outcomes = c.in_ok-outcomes.outcomes in
    let after = c.place.new.all in
    let size_new : length after ≡ length outcomes.items = c.place.auto.all ∙ ap length c.as_mut_slice.ensures.value in
    let placed : PlacesThese (map as_done (zip c.args.all.now c.args.own.items)) c.as_mut_slice.result.now after =
    subst (λ them. PlacesThese them c.as_mut_slice.result.now after) c.in_ok-done.ensures c.place.ensures in
    written_back after outcomes.items outcomes.len (omega (arith, outcomes.ok)) size_new
    ∙ placed_again site pages visits c.args.all.now c.args.own.items c.as_mut_slice.result.now after c.requires.all is placed
    (omega (arith, size_new, c.in_ok-outcomes.ensures, length-map c.args.visits.now (λ (visit : Bor Visit). visit.now)))

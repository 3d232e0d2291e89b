-- Visits whose numbers ascend with the places.
use Rattle.std.proofs.Common.{ℕ, ◌<◌, List, length, map, arith}
use Rattle.std.specs.List.{AllPairs}
use Rattle.std.proofs.lemmas.List.Kept.{AllPairs-from_increasing}
use Rattle.std.proofs.lemmas.List.{get_or-map, length-map}
use Rattle.client_log.specs.declared.visit.Visit.{Visit}
use Rattle.client_log.proofs.Places.{Before}
use Rattle.visit_view.specs.Visits.{AreVisitsInOrder}

pub in_pairs : (visits : List Visit) → AreVisitsInOrder visits → AllPairs Before visits
in_pairs visits up i j d less within =
    let numbers = map (λ (visit : Visit). visit.number) visits in
    let inside : j < length numbers = omega (arith, within, length-map visits (λ (visit : Visit). visit.number)) in
    omega (
      arith,
      AllPairs-from_increasing numbers up i j 0 less inside,
      get_or-map (λ (visit : Visit). visit.number) visits i d 0 (omega (arith, less, within)),
      get_or-map (λ (visit : Visit). visit.number) visits j d 0 within,
    )

-- Visits whose numbers ascend.
use Rattle.std.proofs.Common.{List, map, arith}
use Rattle.std.specs.List.{AllPairs}
use Rattle.std.specs.List.Sorted.{IsStrictlyIncreasing}
use Rattle.std.proofs.lemmas.List.{get_or-map, length-map}
use Rattle.std.proofs.lemmas.List.Kept.{AllPairs-from_increasing}
use Rattle.client_log.specs.declared.visit.Visit.{Visit}
use Rattle.client_log.proofs.Places.{Before}

pub in_order : (visits : List Visit) → IsStrictlyIncreasing (map (λ visit. visit.number) visits) → AllPairs Before visits
in_order visits ascend i j d less within =
    let number = λ (visit : Visit). visit.number in
    let ordered = AllPairs-from_increasing (map number visits) ascend i j (number d) less (omega (arith, within, length-map visits number)) in
    omega (arith, ordered, get_or-map number visits i d (number d) (omega (arith, less, within)), get_or-map number visits j d (number d) within)

-- The visits of a client's log, in the order of their numbers.
use Rattle.std.specs.Prelude.{List, map}
use Rattle.std.specs.List.Sorted.{IsStrictlyIncreasing}
use Rattle.client_log.specs.declared.visit.Visit.{Visit}

abbrev pub AreVisitsInOrder : List Visit → Type 0
AreVisitsInOrder visits = IsStrictlyIncreasing (map (λ visit. visit.number) visits)

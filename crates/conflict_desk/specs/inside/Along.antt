-- What is said of the case at a place: whether it goes with that visit.
use Rattle.std.specs.Prelude.{ℕ, List, Bool, false, slice_get}
use Rattle.std.specs.Option.{option_map_or}
use Rattle.conflict_desk.specs.Below.{goes_with}
use Rattle.conflict_desk.specs.declared.docket.Case.{Case}

abbrev pub goes_at : List Case → ℕ → ℕ → Bool
goes_at cases visit k = option_map_or (goes_with cases visit) (slice_get cases k) false

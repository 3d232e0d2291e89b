use Rattle.std.proofs.Common.{◌≡◌, ℕ, List, [], map, filter_map}
use Rattle.collect_http.specs.Asking.{name_in_part}
use Rattle.collect_http.proofs.cookie.client_in.Given as goal
use denote.Ref.{Bor}

abbrev pub invariant-loop-part : goal.invariant-loop-part
invariant-loop-part l = record {
  next : (goal.iterator-loop-part).can_next l.part-iterator;
  finite : (goal.iterator-loop-part).is_finite l.part-iterator;
  none : filter_map name_in_part (map (λ (x : Bor (List ℕ)). x.now) l.yielded) ≡ [];
}

use Rattle.std.proofs.Common.{◌≡◌, ℕ, List, [], map, filter_map, bytes_eq}
use Rattle.indexmap.specs.IndexSet.{insert_all}
use Rattle.collect_http.specs.Asking.{visit_in_part}
use Rattle.collect_http.proofs.asking.visits_of_query.Given as goal
use denote.Ref.{Bor}

abbrev pub invariant-loop-part : goal.invariant-loop-part
invariant-loop-part l = record {
  next : (goal.iterator-loop-part).can_next l.part-iterator;
  finite : (goal.iterator-loop-part).is_finite l.part-iterator;
  so_far : l.visits.keys ≡ insert_all bytes_eq [] (filter_map visit_in_part (map (λ (x : Bor (List ℕ)). x.now) l.yielded));
}

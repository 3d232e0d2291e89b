use Rattle.std.proofs.Common.{◌≡◌, length, filter, get_or, false}
use Rattle.std.specs.List.{range_with_len}
use Rattle.review_state.specs.Paging.{shown_of}
use Rattle.review_state.proofs.paging.page_of.Given as goal

abbrev pub invariant-loop-place : goal.invariant-loop-place
invariant-loop-place l = let marked = filter (λ k. get_or l.marks k false) (range_with_len 0 l.place) in record {
  count : l.page.count ≡ length marked;
  places : l.page.places.items ≡ shown_of l.from l.most marked;
}

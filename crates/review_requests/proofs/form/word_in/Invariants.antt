use Rattle.std.proofs.Common.{◌≡◌, filter_map}
use Rattle.std.specs.List.{slice_get}
use Rattle.form_urlencoded.specs.Parse.{raw_pairs_left}
use Rattle.review_requests.specs.Form.{value_named, word_in}
use Rattle.review_requests.proofs.form.word_in.Given as goal

abbrev pub invariant-loop-pair : goal.invariant-loop-pair
invariant-loop-pair l = record {
  next : (goal.iterator-loop-pair).can_next l.pair-iterator;
  finite : (goal.iterator-loop-pair).is_finite l.pair-iterator;
  left : slice_get (filter_map (value_named l.name) (raw_pairs_left l.pair-iterator)) 0 ≡ word_in l.name l.form;
}

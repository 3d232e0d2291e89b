use Rattle.std.proofs.Common.{filter_map, sym, ap, ◌∙◌}
use Rattle.std.specs.List.{slice_get}
use Rattle.form_urlencoded.specs.Form.{pair_text}
use Rattle.form_urlencoded.specs.Parse.{raw_pairs_left}
use Rattle.review_requests.specs.Form.{value_named, word_in}
use Rattle.review_requests.proofs.Words.{goes_on, is_found, none_left}
use Rattle.review_requests.proofs.form.word_in.Goals as goal

pub loop-pair-init : goal.loop-pair-init
loop-pair-init c = record {
  next = tt;
  finite = tt;
  left = ap (λ pairs. slice_get (filter_map (value_named c.args.name.now) pairs) 0)
      (ap raw_pairs_left c.into_iter-pair-iterator.ensures.into_iter_gives ∙ c.raw_pairs-pair-items.ensures.value);
}

pub loop-pair-preserved : goal.loop-pair-preserved
loop-pair-preserved c = record {
  next = tt;
  finite = tt;
  left = goes_on (value_named c.args.name.now) (word_in c.args.name.now c.args.form.now) (raw_pairs_left c.loop-pair.pair-iterator)
      (raw_pairs_left c.next.new.self) (pair_text c.in-Some.pair) c.in-Some.ensures.steps (sym c.in-Ok-None.field-0-is ∙ c.in-Ok-None.ensures)
      c.loop-pair.invariant.left;
}

pub returns : goal.returns
returns c = none_left (value_named c.args.name.now) (word_in c.args.name.now c.args.form.now) (raw_pairs_left c.loop-pair.pair-iterator)
    c.in-None.ensures.steps.0 c.loop-pair.invariant.left

pub returns-in-Ok-Some : goal.returns-in-Ok-Some
returns-in-Ok-Some c = is_found (value_named c.args.name.now) (word_in c.args.name.now c.args.form.now) (raw_pairs_left c.loop-pair.pair-iterator)
    (raw_pairs_left c.next.new.self) (pair_text c.in-Some.pair) c.in-Ok-Some.value c.in-Some.ensures.steps
    (sym c.in-Ok-Some.field-0-is ∙ c.in-Ok-Some.ensures) c.loop-pair.invariant.left

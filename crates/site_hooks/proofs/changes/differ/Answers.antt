use Rattle.std.proofs.Common.{◌≡◌, ◌/◌, ◌%◌, inl, inr, get_or, sym, ◌∙◌, ap, arith}
use Rattle.std.specs.Prelude.{bit_or}
use Rattle.std.specs.Int.{bit_at}
use Rattle.std.proofs.lemmas.Bool.{cases_lt, cases_eq}
use Rattle.site_hooks.proofs.ChangeLaws.{some_changed, none_changed, none_differ, past_reached, none_reached}
use Rattle.site_hooks.proofs.changes.differ.Goals as goal

pub returns-then-word_differs : goal.returns-then-word_differs
returns-then-word_differs c = λ paths on_old on_new.
    let there = c.word_differs.ensures.yes c.if-word_differs.true in
    sym (some_changed c.args.old.now c.args.new.now paths c.args.before.now c.args.after.now on_old on_new there.0 there.1)

pub loop-index-preserved : goal.loop-index-preserved
loop-index-preserved c =
    let old = c.args.old.now in
    let new = c.args.new.now in
    let before = c.args.before.now in
    let after = c.args.after.now in
    record {
      same = c.word_differs.ensures.same;
      each = λ k less. elim (cases_lt (k / 64) c.loop-index.index) [
        | inl earlier ↦ c.loop-index.invariant.each k earlier
        | inr past ↦
            let is : c.loop-index.index ≡ k / 64 = omega (arith, less, past) in
            elim (cases_eq (bit_at (bit_or c.reached_at.result c.reached_at-in-loop-index.result) (k % 64)) 1) [
              | inl set ↦ c.word_differs.ensures.no c.if-word_differs.false k (is, set)
              | inr other ↦ let none = none_reached before after c.loop-index.index _ k (ap (λ x. bit_or x c.reached_at-in-loop-index.result) c.reached_at.ensures ∙ ap (bit_or (get_or before.reached.items c.loop-index.index 0)) c.reached_at-in-loop-index.ensures) is other in none_differ old new before after k none.0 none.1
            ]
      ];
    }

pub returns : goal.returns
returns c = λ paths on_old on_new.
    let old = c.args.old.now in
    let new = c.args.new.now in
    let before = c.args.before.now in
    let after = c.args.after.now in
    sym (none_changed old new paths before after on_old on_new (λ k. elim (cases_lt (k / 64) c.loop-index.index) [
      | inl less ↦ c.loop-index.invariant.each k less
      | inr past ↦ none_differ old new before after k (past_reached before k (omega arith)) (past_reached after k (omega arith))
    ]))

use Rattle.std.proofs.Common.{◌≡◌, [], ◌++◌, ap, sym, ◌∙◌, arith}
use Rattle.std.specs.List.{cons_option}
use Rattle.visit_replay.specs.inside.FieldsNow.{pair_now, pairs_now}
use Rattle.visit_replay.proofs.OneSenderMore.{numbered_more, sent_under}
use Rattle.visit_replay.proofs.senders.Senders.under.Goals as goal

pub loop-number-preserved : goal.loop-number-preserved
loop-number-preserved c =
    let l = c.loop-number in
    record {
      up = omega (arith, l.invariant.up);
      each = c.in_ok-note.ensures.each l.invariant.each;
      marked = c.in_ok-note.ensures.marked l.invariant.marked;
      pairs = λ filled on.
          c.in_ok-note.ensures.pairs filled on
          ∙ ap (λ before. before ++ cons_option (pair_now filled l.number) []) (l.invariant.pairs filled on)
          ∙ sym (numbered_more filled c.nodes_under-under.result.start l.number l.invariant.up);
    }

pub returns : goal.returns
returns c =
    let l = c.loop-number in
    let page = c.args.page.now in
    let under = c.nodes_under-under.result in
    let some = c.nodes_under-under.ensures.within c.requires in
    let over : l.number ≡ under.end = omega (arith, c.loop-number-test.false, l.auto.number-end, some.0) in
    record {
      each = l.invariant.each;
      marked = l.invariant.marked;
      pairs = λ filled on within text states held.
          l.invariant.pairs filled on ∙ ap (pairs_now filled under.start) over
          ∙ sent_under filled page on c.args.form under.start under.end within c.nodes_under-under.ensures.under some.0 some.1 text states held;
    }

use Rattle.std.proofs.Common.{◌≡◌, All, length, ◌++◌, [], subst, ap, sym, ◌∙◌, arith, length-append}
use Rattle.std.specs.List.{cons_option}
use Rattle.std.proofs.lemmas.List.Elements.{All-append, filter_map-append}
use Rattle.visit_replay.specs.inside.FieldsNow.{pair_now, pairs_now}
use Rattle.visit_replay.specs.inside.Senders.{IsSender, SaysFresh, sent_all}
use Rattle.visit_replay.proofs.OneSenderMore.{numbered_more, sent_under}
use Rattle.visit_replay.proofs.page_senders.PageSenders.list.Goals as goal

pub loop-number-preserved : goal.loop-number-preserved
loop-number-preserved c =
    let l = c.loop-number in
    let next = c.take_in.ensures.next in
    let old = l.self.all.items in
    record {
      up = omega (arith, l.invariant.up);
      few = omega (arith, l.invariant.few, ap length next.items, length-append old next.more, next.one);
      each = subst (All (IsSender c.args.page.now)) (sym next.items) (All-append (IsSender c.args.page.now) old next.more l.invariant.each next.each);
      marked = subst (All (SaysFresh c.args.names.now)) (sym next.items) (All-append (SaysFresh c.args.names.now) old next.more l.invariant.marked next.marked);
      pairs = λ filled on.
          ap (sent_all filled) next.items ∙ filter_map-append (λ s. pair_now filled s.number) old next.more
          ∙ ap (λ l. sent_all filled old ++ l) (next.sends filled on)
          ∙ ap (λ before. before ++ cons_option (pair_now filled l.number) []) (l.invariant.pairs filled on)
          ∙ sym (numbered_more filled c.nodes_under-under.result.start l.number l.invariant.up);
      known = c.take_in.ensures.known;
      room = λ n has. c.take_in.ensures.room n (l.invariant.room n has);
    }

pub returns-clause-right : goal.returns-clause-right
returns-clause-right c =
    let l = c.loop-number in
    let page = c.args.page.now in
    let under = c.nodes_under-under.result in
    let some = c.nodes_under-under.ensures.within c.requires.form in
    let over : l.number ≡ under.end = omega (arith, c.loop-number-test.false, l.auto.number-end, some.0) in
    record {
      known = l.invariant.known;
      under = record {
        each = l.invariant.each;
        marked = l.invariant.marked;
        pairs = λ filled on within text states held.
            l.invariant.pairs filled on ∙ ap (pairs_now filled under.start) over
            ∙ sent_under filled page on c.args.form under.start under.end within c.nodes_under-under.ensures.under some.0 some.1 text states held;
      };
    }

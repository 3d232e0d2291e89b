use Rattle.std.proofs.Common.{◌∷◌, ◌++◌, [], append-nil, refl, sym, ap, ◌∙◌, arith}
use Rattle.std.specs.List.{cons_option}
use Rattle.std.proofs.lemmas.List.Elements.{All-cons, All-nil}
use Rattle.visit_replay.specs.inside.FieldsNow.{pair_now}
use Rattle.visit_replay.specs.inside.Senders.{IsSender, SaysFresh}
use Rattle.visit_replay.proofs.page_senders.PageSenders.take_in.Goals as goal

pub returns-in-Some-clause-next : goal.returns-in-Some-clause-next
returns-in-Some-clause-next c =
    let sender = c.in-Some.sender in
    let some = c.in-Some.ensures.some in
    record {
      more = sender ∷ [];
      items = c.push_reserved.ensures.items ∙ ap (λ v. v.items ++ sender ∷ []) c.sender_of.ensures.all;
      one = omega arith;
      each = All-cons (IsSender c.args.page.now) sender [] some.1 (All-nil (IsSender c.args.page.now));
      marked = All-cons (SaysFresh c.args.names.now) sender [] some.2 (All-nil (SaysFresh c.args.names.now));
      sends = λ filled on. ap (λ n. cons_option (pair_now filled n) []) some.0;
    }

pub returns-in-None-clause-next : goal.returns-in-None-clause-next
returns-in-None-clause-next c = record {
  more = [];
  items = ap (λ v. v.items) c.sender_of.ensures.all ∙ sym (append-nil c.args.self.now.all.items);
  one = omega arith;
  each = All-nil (IsSender c.args.page.now);
  marked = All-nil (SaysFresh c.args.names.now);
  sends = λ filled on. sym (ap (λ o. cons_option o []) (c.in-None.ensures.none refl filled on));
}

use Rattle.std.proofs.Common.{All, subst, sym, ap, ◌∙◌, ◌++◌, []}
use Rattle.std.specs.List.{cons_option}
use Rattle.std.proofs.lemmas.List.Elements.{All-push}
use Rattle.visit_replay.specs.inside.FieldsNow.{pair_now}
use Rattle.visit_replay.specs.inside.Senders.{IsSender, SaysFresh, sent_all}
use Rattle.visit_replay.proofs.OneSenderMore.{sender_more}
use Rattle.visit_replay.proofs.senders.Senders.note.Goals as goal

pub returns-in_ok-push-clause-pairs : goal.returns-in_ok-push-clause-pairs
returns-in_ok-push-clause-pairs c = λ filled on.
    let sender = c.in-Some.sender in
    ap (sent_all filled) c.in_ok-push.ensures.items ∙ sender_more filled c.args.self.now.all.items sender
    ∙ ap (λ n. sent_all filled c.args.self.now.all.items ++ cons_option (pair_now filled n) []) c.in-Some.ensures.some.0

pub returns-in_ok-push-clause-each : goal.returns-in_ok-push-clause-each
returns-in_ok-push-clause-each c = λ all.
    subst (All (IsSender c.args.page.now)) (sym c.in_ok-push.ensures.items) (All-push (IsSender c.args.page.now) c.args.self.now.all.items _ all c.in-Some.ensures.some.1)

pub returns-in_ok-push-clause-marked : goal.returns-in_ok-push-clause-marked
returns-in_ok-push-clause-marked c = λ all.
    subst (All (SaysFresh c.args.names.now)) (sym c.in_ok-push.ensures.items) (All-push (SaysFresh c.args.names.now) c.args.self.now.all.items _ all c.in-Some.ensures.some.2)

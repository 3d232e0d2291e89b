use Rattle.std.proofs.Common.{◌≡◌, [], ◌++◌, not, false, All, Some, codes, unwrap_or, rules, refl, sym, ap, subst, ◌∙◌}
use Rattle.std.proofs.lemmas.Result.{IfOk-weaker}
use Rattle.std.specs.Str.{bytes_eq}
use Rattle.form_urlencoded.specs.Form.{extend_pairs}
use Rattle.page_tree.specs.Number.{place_numbered}
use Rattle.visit_replay.specs.Field.{value_before, is_on_before}
use Rattle.visit_replay.specs.Form.{bare, pairs_of, sent_to}
use Rattle.visit_replay.specs.Moved.{are_apart, what_counts}
use Rattle.visit_replay.specs.Requests.{request_at}
use Rattle.visit_replay.specs.inside.OneEvent.{places_numbered}
use Rattle.visit_replay.specs.inside.Senders.{SaysFresh, IsSender, SendUnder, sent_all}
use Rattle.visit_replay.proofs.requests.leads_elsewhere.Goals as goal

pub returns-in_ok-look_under-in-Submit-clause-leads : goal.returns-in_ok-look_under-in-Submit-clause-leads
returns-in_ok-look_under-in-Submit-clause-leads c =
    IfOk-weaker c.is_query_apart.result _ _ (λ answer is aim before kept.
    let finding = c.args.finding.now in
    let filled = c.args.filled.now in
    let new = filled.page.now in
    let button = places_numbered filled.button new in
    let form = place_numbered c.args.target new in
    let them = pairs_of aim new before button form in
    let action = c.action_of-action.result.now in
    let under : SendUnder c.look_under.new.self.names.now new c.args.target c.senders_under.result.now.all.items = c.senders_under.ensures new (c.in_ok-look_under-in-Submit.ensures.known new c.requires.forms) in
    let same = ap (sent_all filled) c.as_slice-senders.ensures ∙ under.pairs filled refl c.requires.button (value_before aim new before) (is_on_before aim new before) kept in
    let whole : request_at aim c.args.address.now new before c.args.event.now button form ≡ Some (sent_to false c.in-Submit.req action (extend_pairs [] them)) = search rules in
    is ∙ ap (λ pairs. not (bytes_eq (what_counts finding (bare action ++ codes "?" ++ extend_pairs [] pairs)) (what_counts finding c.args.now.now))) same
    ∙ ap (λ r. are_apart finding r (Some c.args.now.now)) (sym whole)) c.is_query_apart.ensures

pub is_query_apart-requires-clause-marked : goal.is_query_apart-requires-clause-marked
is_query_apart-requires-clause-marked c =
    let names = unwrap_or c.args.finding.now [] in
    let new = c.args.filled.now.page.now in
    let under : SendUnder c.look_under.new.self.names.now new c.args.target c.senders_under.result.now.all.items = c.senders_under.ensures new (c.in_ok-look_under-in-Submit.ensures.known new c.requires.forms) in
    let kept : c.look_under.new.self.names.now ≡ names = ap (λ n. n.now) c.in_ok-look_under-in-Submit.ensures.names ∙ c.requires.names in
    subst (λ them. All (SaysFresh names) them) (sym c.as_slice-senders.ensures)
    (subst (λ ns. All (SaysFresh ns) c.senders_under.result.now.all.items) kept under.marked)

pub is_query_apart-requires-clause-senders : goal.is_query_apart-requires-clause-senders
is_query_apart-requires-clause-senders c =
    let new = c.args.filled.now.page.now in
    let under : SendUnder c.look_under.new.self.names.now new c.args.target c.senders_under.result.now.all.items = c.senders_under.ensures new (c.in_ok-look_under-in-Submit.ensures.known new c.requires.forms) in
    subst (All (IsSender new)) (sym c.as_slice-senders.ensures) under.each

use Rattle.std.proofs.Common.{◌≡◌, [], ◌++◌, not, Some, All, unwrap_or, codes, sym, ap, ◌∙◌, subst}
use Rattle.std.specs.Str.{bytes_eq}
use Rattle.page_looks.specs.Sending.{without_fresh}
use Rattle.visit_replay.specs.Moved.{what_counts}
use Rattle.form_urlencoded.specs.Form.{extend_pairs}
use Rattle.visit_replay.specs.Form.{bare}
use Rattle.visit_replay.specs.inside.Senders.{SaysFresh, sent_all}
use Rattle.visit_replay.proofs.requests.is_query_apart.Goals as goal

pub returns-in_ok-counts-in-Some : goal.returns-in_ok-counts-in-Some
returns-in_ok-counts-in-Some c =
    let fresh = c.in-Some.fresh.now in
    let finding : Some fresh ≡ c.args.finding.now = c.in-Some.ensures in
    let now = c.args.now.now in
    let marked : All (SaysFresh fresh) c.args.senders.now = subst (λ f. All (SaysFresh (unwrap_or f [])) c.args.senders.now) (sym finding) c.requires.marked in
    let whole = bare c.args.action.now ++ codes "?" ++ extend_pairs [] (sent_all c.args.filled.now c.args.senders.now) in
    let there : c.as_str.result.now ≡ without_fresh fresh now = c.as_str.ensures ∙ rw c.as_slice.ensures at c.in_ok-counts-in-Some.ensures in
    let so = c.is_what_counts.ensures fresh marked ∙ ap (bytes_eq (without_fresh fresh whole)) there in
    subst (λ f. not c.is_what_counts.result ≡ not (bytes_eq (what_counts f whole) (what_counts f now))) finding (ap not so)

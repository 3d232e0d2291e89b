use Rattle.std.proofs.Common.{◌≡◌, ◌∙◌, All, [], if◌then◌else◌, subst, sym, ap}
use Rattle.std.proofs.lemmas.Result.{IfOk-weaker}
use Rattle.form_urlencoded.specs.Form.{extend_pairs}
use Rattle.visit_replay.specs.Form.{sent_to}
use Rattle.visit_replay.specs.inside.FieldsNow.{told}
use Rattle.visit_replay.specs.inside.Senders.{SaysCounted}
use Rattle.visit_replay.specs.inside.Tellings.{pairs_told, told_counted, told_request, KnowsFresh}
use Rattle.visit_replay.proofs.ToldLaws.{says_counted, told_or}
use Rattle.visit_replay.proofs.told.ToldRequest.written.Goals as goal

pub returns-in_ok-pairs-in-Form : goal.returns-in_ok-pairs-in-Form
returns-in_ok-pairs-in-Form c =
    let form = c.in-Form.form in
    let counted = c.args.counted in
    IfOk-weaker c.form_request.result _ _ (λ request is names given.
    let says : All (SaysCounted counted names) form.pairs.senders.now = says_counted counted names form.pairs.senders.now (λ on. subst (KnowsFresh names) c.in-Form.is (given on)) in
    let pairs : c.in_ok-pairs-in-Form.pairs ≡ extend_pairs [] (told counted names (pairs_told form.pairs)) = c.in_ok-pairs-in-Form.ensures names says in
    subst (λ t. request ≡ (if counted then told_counted names t else told_request t)) (sym c.in-Form.is)
    (is ∙ ap (λ ps. sent_to form.post form.number form.action.now ps) pairs ∙ told_or counted names form)) c.form_request.ensures

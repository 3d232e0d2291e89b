use Rattle.std.proofs.Common.{◌≡◌, ◌∙◌, [], false, sym, ap}
use Rattle.std.proofs.lemmas.Result.{IfOk-weaker}
use Rattle.form_urlencoded.specs.Form.{extend_pairs}
use Rattle.visit_replay.specs.inside.Tellings.{pairs_told, told_request}
use Rattle.visit_replay.specs.declared.told.ToldRequest.TheVariants.{Form}
use Rattle.visit_replay.proofs.ToldLaws.{got_address, is_posted, uncounted}
use Rattle.visit_replay.proofs.told.ToldRequest.address.Goals as goal

pub returns-in_ok-pairs-in-Form-2 : goal.returns-in_ok-pairs-in-Form-2
returns-in_ok-pairs-in-Form-2 c =
    let form = c.in-Form-2.form in
    let same : Form c.in-Form.form ≡ Form form = sym c.in-Form.is ∙ c.in-Form-2.is in
    let posts : form.post ≡ false = sym (ap is_posted same) ∙ c.if-form.false in
    let pairs : c.as_str.result.now ≡ extend_pairs [] (pairs_told form.pairs) = c.as_str.ensures ∙ c.in_ok-pairs-in-Form-2.ensures [] (uncounted [] form.pairs.senders.now) in
    IfOk-weaker c.with_query.result _ _
    (λ address is. is ∙ got_address form c.start.result.now c.as_str.result.now posts c.start.ensures pairs ∙ ap (λ t. (told_request t).address) (sym c.in-Form-2.is)) c.with_query.ensures

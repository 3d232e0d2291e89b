use Rattle.std.proofs.Common.{◌≡◌, Some, None, map, true, sym, ap, ◌∙◌}
use Rattle.std.specs.Str.{bytes_eq}
use Rattle.form_urlencoded.specs.Form.{serialize_pair}
use Rattle.page_looks.specs.Sending.{query_text}
use Rattle.visit_replay.specs.Form.{bare}
use Rattle.visit_replay.specs.inside.FieldsNow.{left_behind, told}
use Rattle.visit_replay.specs.inside.Senders.{sent_all}
use Rattle.visit_replay.proofs.FreshValues.{counted_address_is}
use Rattle.visit_replay.proofs.LeftBehind.{eq_behind, not_eq}
use Rattle.visit_replay.proofs.counted_query.is_what_counts.Goals as goal

pub returns-in-Some : goal.returns-in-Some
returns-in-Some c = λ names marked.
    let all = sent_all c.args.filled.now c.args.senders.now in
    let there : Some c.in-Some.query.now ≡ left_behind (bare c.args.action.now) c.args.text.now = rw (c.bare.ensures, c.as_bytes.ensures.value) at c.in-Some.ensures in
    let pairs = query_text (map serialize_pair (told true names all)) in
    c.are_counted_pairs.ensures names marked
    ∙ sym (ap (λ t. bytes_eq t c.args.text.now) (counted_address_is names c.args.action.now all)
    ∙ eq_behind (bare c.args.action.now) pairs c.args.text.now c.in-Some.query.now there)

pub returns-in-None : goal.returns-in-None
returns-in-None c = λ names marked.
    let all = sent_all c.args.filled.now c.args.senders.now in
    let there : None ≡ left_behind (bare c.args.action.now) c.args.text.now = rw (c.bare.ensures, c.as_bytes.ensures.value) at c.in-None.ensures in
    sym (ap (λ t. bytes_eq t c.args.text.now) (counted_address_is names c.args.action.now all)
    ∙ not_eq (bare c.args.action.now) (query_text (map serialize_pair (told true names all))) c.args.text.now there)

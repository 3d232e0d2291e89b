use Rattle.std.proofs.Common.{refl, sym}
use Rattle.std.proofs.lemmas.Bool.{false≢true}
use Rattle.http_header.specs.HeaderMap.{get}
use Rattle.review_requests.proofs.Visible.{text_some, text_none}
use Rattle.review_requests.proofs.host.field_text.Goals as goal

pub returns-in-Ok : goal.returns-in-Ok
returns-in-Ok c = rw (sym c.headers.ensures) (text_some (get c.headers.result.now c.args.name) c.in-Some.value.now c.in-Ok.text.now
    c.in-Some.ensures.value c.in-Ok.ensures.ok (c.in-Ok.ensures.succeeds.0 refl))

pub returns-in-Err : goal.returns-in-Err
returns-in-Err c = rw (sym c.headers.ensures) (text_none (get c.headers.result.now c.args.name) c.in-Some.value.now
    c.in-Some.ensures.value (λ visible. false≢true (c.in-Err.ensures.succeeds.1 visible)))

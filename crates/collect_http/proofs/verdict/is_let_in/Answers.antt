use Rattle.std.proofs.Common.{refl, sym, ap, ◌∙◌}
use Rattle.std.proofs.lemmas.Bool.{false≢true}
use Rattle.std.specs.Option.{option_copied}
use Rattle.http.specs.Request.{head_of}
use Rattle.http_header.specs.FieldValue.{FieldValue}
use Rattle.http_header.specs.HeaderMap.{Entries, get}
use Rattle.std.proofs.Common.{codes}
use Rattle.collect_http.specs.Asking.{is_own, is_other}
use Rattle.collect_http.proofs.Visible.{let_in_as, not_let_in}
use Rattle.collect_http.proofs.verdict.is_let_in.Goals as goal

pub returns-else-is_own : goal.returns-else-is_own
returns-else-is_own c =
    let_in_as (is_own c.args.request.now) (is_other (option_copied c.args.origin)) (get (head_of c.args.request.now).headers (codes "origin")) c.in-Some.value.now c.in-Ok.page.now c.is_other.result
    (c.in-Some.ensures.value ∙ ap (λ (m : Entries FieldValue). get m (codes "origin")) c.headers.ensures) c.in-Ok.ensures.ok (c.in-Ok.ensures.succeeds.0 refl) (sym c.is_own.ensures ∙ c.if-is_own.false)
    (sym c.is_other.ensures)

pub returns-in-Err : goal.returns-in-Err
returns-in-Err c =
    not_let_in (is_own c.args.request.now) (is_other (option_copied c.args.origin)) (get (head_of c.args.request.now).headers (codes "origin")) c.in-Some.value.now
    (c.in-Some.ensures.value ∙ ap (λ (m : Entries FieldValue). get m (codes "origin")) c.headers.ensures) (λ visible. false≢true (c.in-Err.ensures.succeeds.1 visible))

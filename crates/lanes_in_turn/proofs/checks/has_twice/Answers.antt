use Rattle.std.proofs.Common.{sym, ap, ◌∙◌, bytes_eq}
use Rattle.std.specs.List.{list_any}
use Rattle.lanes_in_turn.proofs.RoundLaws.{twice, once}
use Rattle.lanes_in_turn.proofs.checks.has_twice.Goals as goal

pub returns-then-is_among : goal.returns-then-is_among
returns-then-is_among g c =
    let others = c.in-Some.others.now in
    twice c.args.uploads.now c.loop-first.rest.now others c.in-Some.first.now c.loop-first.invariant c.in-Some.ensures.cases.0
    (ap (λ client. list_any (λ upload. bytes_eq client upload.client) others) (sym c.client.ensures) ∙ sym c.is_among.ensures ∙ c.if-is_among.true)

pub loop-first-preserved : goal.loop-first-preserved
loop-first-preserved g c =
    let others = c.in-Some.others.now in
    once c.args.uploads.now c.loop-first.rest.now others c.in-Some.first.now c.loop-first.invariant c.in-Some.ensures.cases.0
    (ap (λ client. list_any (λ upload. bytes_eq client upload.client) others) (sym c.client.ensures) ∙ sym c.is_among.ensures ∙ c.if-is_among.false)

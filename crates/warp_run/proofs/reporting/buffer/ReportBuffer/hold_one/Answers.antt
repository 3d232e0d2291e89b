use Rattle.std.proofs.Common.{◌≡◌, ◌++◌, length, sym, ap, ◌∙◌, arith}
use Rattle.warp_run.proofs.EncodedLaws.{three}
use Rattle.warp_run.proofs.reporting.buffer.ReportBuffer.hold_one.Goals as goal

pub hold-requires : goal.hold-requires
hold-requires c =
    let long : length c.as_bytes.result.now ≡ 3 = ap (λ b. length b) (c.as_bytes.ensures.value ∙ c.percent_encode_byte.ensures) ∙ three c.args.byte in
    omega (arith, c.requires)

pub returns-then-one-eq0-clause-held : goal.returns-then-one-eq0-clause-held
returns-then-one-eq0-clause-held c =
    c.hold.ensures.held
    ∙ ap (λ b. c.args.self.now.held.items ++ b) (c.as_bytes.ensures.value ∙ c.percent_encode_byte.ensures ∙ sym (c.written_as-one.ensures.escaped c.if-one-eq0.true))

pub returns-then-one-eq0-clause-len : goal.returns-then-one-eq0-clause-len
returns-then-one-eq0-clause-len c =
    let long : length c.as_bytes.result.now ≡ 3 = ap (λ b. length b) (c.as_bytes.ensures.value ∙ c.percent_encode_byte.ensures) ∙ three c.args.byte in
    omega (arith, c.hold.ensures.len)

pub returns-else-one-eq0-clause-held : goal.returns-else-one-eq0-clause-held
returns-else-one-eq0-clause-held c =
    c.push_reserved.ensures.items ∙ ap (λ b. c.args.self.now.held.items ++ b) (sym (c.written_as-one.ensures.one c.if-one-eq0.false))

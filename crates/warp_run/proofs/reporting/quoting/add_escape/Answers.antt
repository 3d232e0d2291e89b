use Rattle.std.proofs.Common.{sym, ◌∙◌}
use Rattle.warp_run.proofs.BufferLaws.{adds_as}
use Rattle.warp_run.proofs.QuotingLaws.{letter_escape, control_escape}
use Rattle.warp_run.proofs.reporting.quoting.add_escape.Goals as goal

pub returns-then-letter-ne0 : goal.returns-then-letter-ne0
returns-then-letter-ne0 g c =
    adds_as c.add_bytes.ensures (sym (letter_escape c.args.byte c.escape_letter-letter.result c.escape_letter-letter.ensures c.if-letter-ne0.true))

pub returns-else-letter-ne0 : goal.returns-else-letter-ne0
returns-else-letter-ne0 g c =
    adds_as c.add_bytes-else-letter-ne0.ensures
    (sym (control_escape c.args.byte c.hex_digit-high.result c.hex_digit-low.result c.requires (sym c.escape_letter-letter.ensures ∙ c.if-letter-ne0.false) c.hex_digit-high.ensures c.hex_digit-low.ensures))

use Rattle.std.proofs.Common.{◌≡◌, arith}
use Rattle.text_difference.specs.Difference.{common_end}
use Rattle.text_difference.proofs.Alike.{end_joined}
use Rattle.text_difference.proofs.comparing.cut_ends.Goals as goal

pub returns-clause-new : goal.returns-clause-new
returns-clause-new c =
    let most : c.common_end-count.result ≡ common_end c.args.old.now c.args.new.now = cc in
    rw (c.cut-2.ensures.front, c.cut.ensures.rest)
    (end_joined c.args.old.now c.args.new.now c.last_end_edge-count.result (omega arith))

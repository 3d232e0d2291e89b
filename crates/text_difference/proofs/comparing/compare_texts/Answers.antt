use Rattle.std.proofs.Common.{◌≡◌, arith}
use Rattle.text_difference.specs.Difference.{common_front}
use Rattle.text_difference.proofs.Alike.{front_joined}
use Rattle.text_difference.proofs.comparing.compare_texts.Goals as goal

pub returns-clause-new : goal.returns-clause-new
returns-clause-new c =
    let most : c.common_front-count.result ≡ common_front c.args.old.now c.args.new.now = cc in
    rw (c.cut_ends.ensures.new, c.cut.ensures.front, c.cut-2.ensures.rest)
    (front_joined c.args.old.now c.args.new.now c.last_front_edge-count.result (omega arith))

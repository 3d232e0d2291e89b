use Rattle.std.proofs.Common.{◌==◌, ap, ◌∙◌}
use Rattle.std.specs.List.{before_first}
use Rattle.visit_replay.proofs.Cut.{before_both}
use Rattle.visit_replay.proofs.address.bare.Goals as goal

pub returns : goal.returns
returns c = c.before-3.ensures ∙ ap (before_first (λ b. b == 35)) c.before-2.ensures ∙ before_both c.args.address.now

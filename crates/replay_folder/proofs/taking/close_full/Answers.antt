use Rattle.std.proofs.Common.{◌<◌, length, sym, subst, arith}
use Rattle.std.proofs.lemmas.Result.{IfOk-weaker}
use Rattle.lanes_in_turn.specs.Round.{max_round_lanes}
use Rattle.replay_folder.proofs.taking.close_full.Goals as goal

pub returns-then-len-clause-few : goal.returns-then-len-clause-few
returns-then-len-clause-few g c =
    IfOk-weaker c.open_next.result _ _ (λ more none. subst (λ uploads. length uploads < max_round_lanes) (sym none) (omega arith)) c.open_next.ensures.empty

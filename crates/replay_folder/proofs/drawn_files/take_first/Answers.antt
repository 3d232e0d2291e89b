use Rattle.std.proofs.Common.{[], ◌∷◌, None, sym, subst}
use Rattle.lanes_in_turn.specs.Taking.{IsFreshLane}
use Rattle.lanes_in_turn.proofs.FreshLaws.{fresh_begun}
use Rattle.replay_folder.proofs.drawn_files.take_first.Goals as goal

pub take_lane-lane-requires-after_bounds : goal.take_lane-lane-requires-after_bounds
take_lane-lane-requires-after_bounds g c κs within =
    subst IsFreshLane (sym c.in_ok-fresh.ensures) (fresh_begun (λ client. None) c.args.quota (c.args.upload ∷ []) (c.requires, tt)).0

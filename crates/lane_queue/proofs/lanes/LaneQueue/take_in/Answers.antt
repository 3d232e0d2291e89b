use Rattle.std.proofs.Common.{◌≡◌, ◌∙◌, ◌++◌, ap, arith, subst}
use Rattle.crossbeam_queue.specs.Passes.{view}
use Rattle.lane_queue.specs.Items.{of_lane}
use Rattle.lane_queue.proofs.Lists.{of_few}
use Rattle.lane_queue.proofs.Steps.{merges, tells}
use Rattle.lane_queue.proofs.lanes.LaneQueue.take_in.Goals as goal

pub absorb-requires-clause-rule : goal.absorb-requires-clause-rule
absorb-requires-clause-rule g c = merges _ _ _ _ c.requires.takes c.requires.puts

pub len_as-held-requires-clause-rule : goal.len_as-held-requires-clause-rule
len_as-held-requires-clause-rule g c =
    tells _ _ (ap (λ v. v.takes) c.absorb.ensures.rule ∙ c.requires.takes) (ap (λ v. v.puts) c.absorb.ensures.rule)

pub returns-clause-told : goal.returns-clause-told
returns-clause-told g c =
    let (few, (items, size, (within, put))) = c.len_as-held.ensures.rule in
    let lane = (view c.args.putter).lane in
    let fewer = of_few lane items in
    let room = ap (λ queue. queue.room) c.self.view_is in (
      of_lane lane items,
      subst (λ v. v.put ≡ of_lane v.lane v.got ++ of_lane v.lane items) c.absorb.ensures.rule put,
      omega (arith, fewer, size, few, room),
    )

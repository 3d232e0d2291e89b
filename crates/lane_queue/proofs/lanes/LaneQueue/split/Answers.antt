use Rattle.std.proofs.Common.{◌+◌, [], ◌∷◌, length, refl, ◌∙◌, ap, length-append}
use Rattle.lane_queue.specs.Opened.{fresh_putter}
use Rattle.lane_queue.proofs.Counts.{putter_more}
use Rattle.lane_queue.proofs.Steps.{forks}
use Rattle.lane_queue.proofs.lanes.LaneQueue.split.Goals as goal

pub another-own-requires-clause-rule : goal.another-own-requires-clause-rule
another-own-requires-clause-rule g c = forks _ _ (ap (λ v. v.takes) c.loop-lane.invariant.1)

pub loop-lane-preserved : goal.loop-lane-preserved
loop-lane-preserved g c =
    let kept = c.loop-lane.invariant in
    let (same, own) = c.another-own.ensures.queue in
    let (left, right) = c.another-own.ensures.rule in (
      (same.0 ∙ kept.0.0, same.2 ∙ kept.0.1),
      left ∙ rw kept.1 refl,
      rw (c.push_reserved.ensures.items, c.of_lane.ensures) (putter_more _ _ _ _ kept.2 (own.0 ∙ ap (λ q. q.table_id) c.self.view_is) (right ∙ ap (λ v. fresh_putter v.made) kept.1)),
      rw c.push_reserved.ensures.capacity kept.3,
      ap length c.push_reserved.ensures.items ∙ length-append c.loop-lane.putters.items (c.of_lane.result ∷ []) ∙ ap (λ n. n + 1) kept.4,
    )

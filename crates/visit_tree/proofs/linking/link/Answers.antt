use Rattle.std.proofs.Common.{◌≡◌, ◌+◌, ◌-◌, ◌<◌, length, subst, arith}
use Rattle.visit_tree.specs.inside.Siblings.{AreFirsts, AreNexts}
use Rattle.visit_tree.proofs.Siblings.{first_linked, next_linked, no_firsts, no_nexts}
use Rattle.visit_tree.proofs.linking.link.Goals as goal

pub loop-place-init : goal.loop-place-init
loop-place-init c = record {
  within = omega arith;
  firsts = no_firsts c.args.parents.now c.args.firsts.now c.requires.firsts_count c.requires.none;
  nexts = no_nexts c.args.parents.now c.args.nexts.now c.requires.nexts_count;
}

pub loop-place-preserved : goal.loop-place-preserved
loop-place-preserved c =
    let place = c.loop-place.place in
    let here : place - 1 < length c.args.parents.now = omega arith in
    let next : place ≡ place - 1 + 1 = omega arith in
    let firsts = subst (λ p. AreFirsts c.args.parents.now p c.loop-place.firsts) next c.loop-place.invariant.firsts in
    let nexts = subst (λ p. AreNexts c.args.parents.now p c.loop-place.nexts) next c.loop-place.invariant.nexts in
    rw c.slot_at-slot.ensures.slot
    (record {
      within = omega arith;
      firsts = first_linked c.args.parents.now c.loop-place.firsts c.loop-place.nexts (place - 1) here firsts;
      nexts = next_linked c.args.parents.now c.loop-place.firsts c.loop-place.nexts (place - 1) here firsts nexts;
    })

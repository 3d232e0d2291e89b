use Rattle.std.proofs.Common.{◌≡◌, ◌<◌, length, true, false, ◌∙◌, sym, ap, arith}
use Rattle.std.proofs.lemmas.List.{get_or_default}
use Rattle.lane_queue.specs.declared.item.Item.{Item}
use Rattle.lane_queue.specs.Items.{of_lane, has_last}
use Rattle.lane_queue.specs.Core.{Machine, may_put}
use Rattle.lane_queue.proofs.CoreLaws.{put_one, may_tells, count_few}
use Rattle.lane_queue.proofs.queue_core.State.put.Goals as goal

pub overflow_add-number : goal.overflow_add-number
overflow_add-number c =
    let may : may_put c.args.self.now c.args.lane ≡ true = sym c.may_put.ensures ∙ c.if-not-may_put.false in
    let there : c.args.lane < length c.self.inside.counts.items =
    let less = (may_tells c.args.self.now c.args.lane may).0 in omega (arith, less, ap (λ (m : Machine). m.lanes) c.self.view_is) in
    let number : c.index-number.result.now ≡ length (of_lane c.args.lane c.self.inside.items.items) =
    c.index-number.ensures ∙ get_or_default c.self.inside.counts.items c.args.lane c.index-number.result.now 0 there ∙ c.self.invariant.counted c.args.lane there in
    omega (arith, number, count_few c.args.lane c.self.inside.items.items, c.self.ranges)

pub invariant_of-self-2 : goal.invariant_of-self-2
invariant_of-self-2 c =
    let may : may_put c.args.self.now c.args.lane ≡ true = sym c.may_put.ensures ∙ c.if-not-may_put.false in
    let told = may_tells c.args.self.now c.args.lane may in
    let there : c.args.lane < length c.self.inside.counts.items = let less = told.0 in omega (arith, less, ap (λ (m : Machine). m.lanes) c.self.view_is) in
    let open_ : has_last (of_lane c.args.lane c.self.inside.items.items) ≡ false = ap (λ (m : Machine). has_last (of_lane c.args.lane m.put)) c.self.view_is ∙ told.1 in
    let number : c.index-number.result.now ≡ length (of_lane c.args.lane c.self.inside.items.items) =
    c.index-number.ensures ∙ get_or_default c.self.inside.counts.items c.args.lane c.index-number.result.now 0 there ∙ c.self.invariant.counted c.args.lane there in
    let x : Item _ = record { lane = c.args.lane; number = c.index-number.result.now; last = c.args.last; body = c.args.item } in
    rw c.in_ok-push.ensures.items (put_one c.self.inside.items.items c.self.inside.taken c.self.inside.counts.items c.self.inside.over.items x c.self.invariant there number open_)

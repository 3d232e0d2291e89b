use Rattle.std.proofs.Common.{length, get_or, None, subst, sym, arith}
use Rattle.visit_tree.specs.Tree.{tree_order}
use Rattle.visit_tree.proofs.Walks.{IsWalking, next_in, leads_all, walk_begun, place_within, one_walked, all_walked}
use Rattle.visit_tree.proofs.ordering.walk.Goals as goal

pub loop-at-init : goal.loop-at-init
loop-at-init c =
    let parents = c.args.parents.now in
    let next = next_in c.args.firsts.now c.args.followers.now in
    let from = get_or c.args.firsts.now (length parents) None in
    subst (λ order. IsWalking (tree_order parents) (length parents) next from order) (sym c.in_ok-order.ensures.items)
    (walk_begun (tree_order parents) (length parents) next from (leads_all parents c.args.firsts.now c.args.followers.now c.requires))

pub next_of-at-requires : goal.next_of-at-requires
next_of-at-requires c =
    let walking = rw c.in-Some.is at c.loop-at.invariant in
    let within = place_within (tree_order c.args.parents.now) (length c.args.parents.now)
    (next_in c.args.firsts.now c.args.followers.now) c.loop-at.order.items c.in-Some.place walking in
    let linked = c.requires in
    record {
      firsts = omega (arith, within, linked.firsts_are.count);
      followers = omega (arith, within, linked.nexts_are.count, linked.followers_are.count);
    }

pub loop-at-preserved : goal.loop-at-preserved
loop-at-preserved c =
    let parents = c.args.parents.now in
    let walking = rw c.in-Some.is at c.loop-at.invariant in
    rw (c.in_ok-push.ensures.items, c.next_of-at.ensures)
    (one_walked (tree_order parents) (length parents) (next_in c.args.firsts.now c.args.followers.now) c.loop-at.order.items
    c.in-Some.place walking)

pub returns : goal.returns
returns c =
    let parents = c.args.parents.now in
    let walking = rw c.in_default.is at c.loop-at.invariant in
    all_walked (tree_order parents) (length parents) (next_in c.args.firsts.now c.args.followers.now) c.loop-at.order.items walking

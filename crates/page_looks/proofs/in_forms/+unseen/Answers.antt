use Rattle.std.proofs.Common.{◌≡◌, suc, ◌+◌, ◌-◌, ◌*◌, ◌<◌, arith, ◌++◌, ◌∷◌, []}
use Rattle.page_tree.specs.Limits.{nodes}
use Rattle.page_tree.specs.Look.{node_at, child_count_at}
use Rattle.page_tree.specs.Number.{place_numbered}
use Rattle.page_tree.proofs.NodesUnder.{child_there}
use Rattle.page_looks.proofs.FormLaws.{unseen_begin, unseen_goes_on, unseen_end, same_one, node_pushed}
use Rattle.page_looks.proofs.in_forms.+unseen.Goals as goal

pub push_under-loop-i-init : goal.push_under-loop-i-init
push_under-loop-i-init t c =
    unseen_begin c.args.page.now c.args.number c.args.covered c.args.all.now c.args.key.now.items
    c.nodes_under-child.result.start c.nodes_under-child.ensures.first (c.nodes_under-child.ensures.start c.requires)

pub push_under-push_unseen-requires : goal.push_under-push_unseen-requires
push_under-push_unseen-requires t c =
    let page = c.args.page.now in
    let place = place_numbered c.args.number page in
    let within : c.loop-i._i < child_count_at place page = rw c.children_of-i-end.ensures at c.loop-i-test.true in
    let few : c.loop-i.child < nodes page = child_there page c.loop-i.child place c.loop-i._i (c.loop-i.invariant.place within) within in
    let small : 2 * (nodes page - c.loop-i.child) + 1 < t = omega (arith, c.decreases, c.loop-i.invariant.behind, few) in
    (small, few)

pub push_under-loop-i-preserved : goal.push_under-loop-i-preserved
push_under-loop-i-preserved t c =
    let page = c.args.page.now in
    let place = place_numbered c.args.number page in
    let next : c.loop-i._i + 1 ≡ suc c.loop-i._i = omega arith in
    let within : c.loop-i._i < child_count_at place page = rw c.children_of-i-end.ensures at c.loop-i-test.true in
    let here : place_numbered c.loop-i.child page ≡ place ++ c.loop-i._i ∷ [] = c.loop-i.invariant.place within in
    let few : c.loop-i.child < nodes page = child_there page c.loop-i.child place c.loop-i._i here within in
    let later : c.loop-i.child < c.nodes_under-child-in-loop-i.result.end =
    omega (arith, c.nodes_under-child-in-loop-i.ensures.start few, (c.nodes_under-child-in-loop-i.ensures.within few).0) in
    rw next
    (unseen_goes_on page c.args.number c.args.covered c.args.all.now c.args.key.now.items c.loop-i.key.items c.push_unseen.new.key.items
    c.loop-i.child c.nodes_under-child-in-loop-i.result.end c.loop-i._i within c.loop-i.invariant
    c.in_ok-push_unseen.ensures (λ more. c.nodes_under-child-in-loop-i.ensures.next place c.loop-i._i here more) later)

pub push_under-returns : goal.push_under-returns
push_under-returns t c =
    unseen_end c.args.page.now c.args.number c.args.covered c.args.all.now c.args.key.now.items c.loop-i.key.items
    c.loop-i.child c.loop-i._i c.loop-i.invariant (omega (arith, c.loop-i-test.false, c.children_of-i-end.ensures))

pub push_unseen-returns : goal.push_unseen-returns
push_unseen-returns t c = λ texts fresh are m is.
    let (own, at, of) = are c.args.number m is in
    let same : own ≡ c.in-Some.one.now = same_one c.args.all.now c.args.number own c.in-Some.one.now at (c.in-Some.ensures.lookup.1) in
    node_pushed texts fresh c.args.covered (node_at (place_numbered c.args.number c.args.page.now) c.args.page.now) m c.in-Some.one.now
    c.args.key.now.items c.push_hidden.new.key.items c.push_under.new.key.items is (rw same at of)
    (rw c.hides-hidden.ensures at c.in_ok-push_hidden.ensures)
    (rw (c.closes-closed.ensures, c.hides-hidden.ensures) at (c.in_ok-push_under.ensures texts fresh are))

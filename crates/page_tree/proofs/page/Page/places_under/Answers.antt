use Rattle.std.proofs.Common.{rules, ◌≡◌, ◌+◌, ◌-◌, ◌++◌, map}
use Rattle.std.specs.List.{range_with_len}
use Rattle.page_tree.specs.Under.{places_under}
use Rattle.page_tree.specs.Number.{place_numbered}
use Rattle.page_tree.proofs.Below.{listed, ordered}
use Rattle.page_tree.proofs.LoopLaws.{place_step}
use Rattle.page_tree.proofs.page.Page.places_under.Goals as goal

pub loop-below-preserved : goal.loop-below-preserved
loop-below-preserved c =
    let step = place_step (λ k. place_numbered k c.args.self.now) c.loop-below.found.items
    (places_under c.args.place.now c.args.self.now) c.loop-below.below c.nodes_under-under.result.end c.loop-below-test.true
    c.loop-below.invariant in
    let all : c.push.new.self.items ++ map (λ k. place_numbered k c.args.self.now)
    (range_with_len (c.loop-below.below + 1) (c.nodes_under-under.result.end - (c.loop-below.below + 1)))
    ≡ places_under c.args.place.now c.args.self.now = rw (c.in_ok-push.ensures.items, c.in_ok-place_numbered.ensures) step in
    all

pub returns-clause-every : goal.returns-clause-every
returns-clause-every c =
    let exact : c.match-number_of.found.items ≡ places_under c.args.place.now c.args.self.now = search rules in
    rw exact (listed c.args.place.now c.args.self.now)

pub returns-clause-order : goal.returns-clause-order
returns-clause-order c =
    let exact : c.match-number_of.found.items ≡ places_under c.args.place.now c.args.self.now = search rules in
    rw exact (ordered c.args.place.now c.args.self.now)

use Rattle.std.proofs.Common.{◌≡◌, suc, ◌+◌, ◌-◌, ◌*◌, ◌<◌, ◌≤◌, arith, ◌∙◌, ◌++◌, ◌∷◌, [], length, set, sym, ap, refl, rules, append_assoc}
use Rattle.page_tree.specs.Limits.{nodes}
use Rattle.page_tree.specs.Look.{child_count_at}
use Rattle.page_tree.specs.Number.{place_numbered}
use Rattle.page_tree.proofs.NodesUnder.{child_there}
use Rattle.page_looks.specs.Outline.{open_children}
use Rattle.page_looks.specs.inside.Ranks.{seen_in}
use Rattle.page_looks.specs.inside.Told.{told_by}
use Rattle.page_looks.specs.declared.shapes.Shapes.{Shapes}
use Rattle.page_looks.proofs.NodeLaws.{node_numbered, open_numbers, parts_covered, child_unseen, child_numbered}
use Rattle.page_looks.proofs.FormLaws.{ready_begun}
use Rattle.page_looks.proofs.PartLaws.{parts_begin, parts_go_on, parts_end}
use Rattle.page_looks.proofs.numbering.+numbering.Goals as goal

-- ---- a child

pub number_child-returns-in_ok-push-clause-looks : goal.number_child-returns-in_ok-push-clause-looks
number_child-returns-in_ok-push-clause-looks t c = λ m is.
    child_numbered (told_by c.args.telling.now) c.args.below.now c.args.own.now c.number_node.new.own c.args.looks.now.items c.number_node.new.looks.items c.args.key.now.items
    c.push.new.self.items c.in_ok-part.part m (sym c.if-is_seen.true ∙ c.is_seen.ensures m is) (c.in_ok-part.ensures.looks m is)
    c.in_ok-push.ensures.items

pub number_child-returns-else-is_seen-clause-looks : goal.number_child-returns-else-is_seen-clause-looks
number_child-returns-else-is_seen-clause-looks t c = λ m is.
    child_unseen (told_by c.args.telling.now) c.args.below.now c.args.own.now c.args.looks.now.items c.args.key.now.items m (sym c.if-is_seen.false ∙ c.is_seen.ensures m is)

-- ---- a node

pub number_node-number_parts-requires : goal.number_node-number_parts-requires
number_node-number_parts-requires t c =
    let small : 3 * (nodes c.args.page.now - c.args.number) < t = omega (arith, c.decreases) in
    let ready = ready_begun c.args.telling.now (told_by c.args.telling.now) c.args.below.now c.args.own.now c.own_key.new.own c.in_ok-key.key.items c.args.page.now
    c.args.number c.requires.there c.in_ok-key.ensures c.requires.ready in
    (small, (c.requires.there, ready))

pub number_node-returns-clause-seen : goal.number_node-returns-clause-seen
number_node-returns-clause-seen t c = λ m is.
    c.in_ok-number_parts.ensures.seen m is ∙ ap (λ s. s ++ seen_in (suc c.args.number) (open_children m)) c.in_ok-push.ensures.items
    ∙ append_assoc c.args.seen.now.items (c.args.number ∷ []) (seen_in (suc c.args.number) (open_children m)) ∙ ap (λ l. c.args.seen.now.items ++ l) (sym (open_numbers c.args.number m))

pub number_node-returns-clause-looks : goal.number_node-returns-clause-looks
number_node-returns-clause-looks t c = λ m is.
    let new : Shapes = record { texts = c.number_parts.new.own.texts; keys = c.key_number.new.own } in
    let rank : c.len-rank.result ≡ length c.args.looks.now.items = search rules in
    node_numbered (told_by c.args.telling.now) c.args.below.now c.args.own.now c.own_key.new.own c.number_parts.new.own new m c.in_ok-key.key.items c.number_parts.new.key.items
    c.args.looks.now.items c.number_parts.new.looks.items _ c.in_ok-look.look (c.in_ok-key.ensures m is)
    (rw c.in_ok-push-2.ensures.items at (c.in_ok-number_parts.ensures.looks m is)) c.in_ok-look.ensures refl
    (ap (λ r. set c.number_parts.new.looks.items r c.in_ok-look.look) rank)

-- ---- the children

pub number_parts-returns-then-is_covered-clause-looks : goal.number_parts-returns-then-is_covered-clause-looks
number_parts-returns-then-is_covered-clause-looks t c = λ m is.
    parts_covered (told_by c.args.telling.now) c.args.below.now c.args.own.now c.args.looks.now.items c.args.key.now.items m (rw c.if-is_covered.true at (c.is_covered.ensures.open m is))

pub number_parts-loop-i-init : goal.number_parts-loop-i-init
number_parts-loop-i-init t c = record {
  parts = parts_begin (told_by c.args.telling.now) c.args.page.now c.args.number c.args.below.now c.args.own.now c.args.seen.now.items c.args.looks.now.items
      c.args.key.now.items c.nodes_under-child.result.start c.nodes_under-child.ensures.first (c.nodes_under-child.ensures.start c.requires.there);
  ready = c.requires.ready;
}

pub number_parts-number_child-requires : goal.number_parts-number_child-requires
number_parts-number_child-requires t c =
    let page = c.args.page.now in
    let place = place_numbered c.args.number page in
    let within : c.loop-i._i < child_count_at place page = rw c.children_of-i-end.ensures at c.loop-i-test.true in
    let few : c.loop-i.child < nodes page = child_there page c.loop-i.child place c.loop-i._i (c.loop-i.invariant.parts.place within) within in
    let small : 3 * (nodes page - c.loop-i.child) + 2 < t = omega (arith, c.decreases, c.loop-i.invariant.parts.behind, few) in
    (small, (few, c.loop-i.invariant.ready))

pub number_parts-loop-i-preserved : goal.number_parts-loop-i-preserved
number_parts-loop-i-preserved t c =
    let page = c.args.page.now in
    let place = place_numbered c.args.number page in
    let next : c.loop-i._i + 1 ≡ suc c.loop-i._i = omega arith in
    let within : c.loop-i._i < child_count_at place page = rw c.children_of-i-end.ensures at c.loop-i-test.true in
    let here : place_numbered c.loop-i.child page ≡ place ++ c.loop-i._i ∷ [] = c.loop-i.invariant.parts.place within in
    let few : c.loop-i.child < nodes page = child_there page c.loop-i.child place c.loop-i._i here within in
    let later : c.loop-i.child < c.nodes_under-child-in-loop-i.result.end =
    omega (arith, c.nodes_under-child-in-loop-i.ensures.start few, (c.nodes_under-child-in-loop-i.ensures.within few).0) in
    record {
      parts = rw next
          (parts_go_on (told_by c.args.telling.now) page c.args.number c.args.below.now c.args.own.now c.loop-i.own c.number_child.new.own c.args.seen.now.items c.loop-i.seen.items
          c.number_child.new.seen.items c.args.looks.now.items c.loop-i.looks.items c.number_child.new.looks.items c.args.key.now.items c.loop-i.key.items
          c.number_child.new.key.items c.loop-i.child c.nodes_under-child-in-loop-i.result.end c.loop-i._i c.requires.there few within c.loop-i.invariant.parts
          c.in_ok-number_child.ensures.seen c.in_ok-number_child.ensures.looks c.in_ok-number_child.ensures.longer
          (λ more. c.nodes_under-child-in-loop-i.ensures.next place c.loop-i._i here more) later);
      ready = c.in_ok-number_child.ensures.ready;
    }

pub number_parts-returns-clause-seen : goal.number_parts-returns-clause-seen
number_parts-returns-clause-seen t c = λ m is.
    let done : child_count_at (place_numbered c.args.number c.args.page.now) c.args.page.now ≤ c.loop-i._i =
    omega (arith, c.loop-i-test.false, c.children_of-i-end.ensures) in
    (parts_end (told_by c.args.telling.now) c.args.page.now c.args.number c.args.below.now c.args.own.now c.loop-i.own c.args.seen.now.items c.loop-i.seen.items c.args.looks.now.items
    c.loop-i.looks.items c.args.key.now.items c.loop-i.key.items c.loop-i.child c.loop-i._i m c.loop-i.invariant.parts done is
    (rw c.if-is_covered.false at (c.is_covered.ensures.open m is))).0

pub number_parts-returns-clause-looks : goal.number_parts-returns-clause-looks
number_parts-returns-clause-looks t c = λ m is.
    let done : child_count_at (place_numbered c.args.number c.args.page.now) c.args.page.now ≤ c.loop-i._i =
    omega (arith, c.loop-i-test.false, c.children_of-i-end.ensures) in
    (parts_end (told_by c.args.telling.now) c.args.page.now c.args.number c.args.below.now c.args.own.now c.loop-i.own c.args.seen.now.items c.loop-i.seen.items c.args.looks.now.items
    c.loop-i.looks.items c.args.key.now.items c.loop-i.key.items c.loop-i.child c.loop-i._i m c.loop-i.invariant.parts done is
    (rw c.if-is_covered.false at (c.is_covered.ensures.open m is))).1

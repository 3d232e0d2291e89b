use Rattle.std.proofs.Common.{◌≡◌, ◌++◌, []}
use Rattle.page_tree.proofs.Counting.{nodes-positive}
use Rattle.page_looks.specs.Outline.{shown}
use Rattle.page_looks.specs.inside.Ranks.{seen_from}
use Rattle.page_looks.specs.inside.Numbering.{NumbersNode}
use Rattle.page_looks.specs.declared.ranks.Ranked.{Ranked}
use Rattle.page_looks.proofs.LooksLaws.{root_there, seen_within, looks_within, page_ranked}
use Rattle.page_looks.proofs.looks.ranked_page.Goals as goal

pub number_node-requires : goal.number_node-requires
number_node-requires c = record { there = nodes-positive c.args.page.now; ready = tt }

pub last_places-requires : goal.last_places-requires
last_places-requires c = λ j n at.
    let seen : c.number_node.new.seen.items ≡ [] ++ seen_from 0 c.args.page.now =
    rw c.new-nodes.ensures.items at (c.in_ok-_root.ensures.seen c.args.page.now (root_there c.args.page.now)) in
    rw c.node_count.ensures (seen_within c.args.page.now c.number_node.new.seen.items j n seen (rw c.as_slice.ensures.value at at))

pub first_places-requires : goal.first_places-requires
first_places-requires c = λ j n at.
    let node : NumbersNode shown c.args.below.now c.args.own.now c.number_node.new.own [] c.number_node.new.looks.items c.in_ok-_root._root c.args.page.now =
    rw c.new-looks.ensures.items at (c.in_ok-_root.ensures.looks c.args.page.now (root_there c.args.page.now)) in
    rw (c.len-below_keys.ensures.count, c.len-own_keys.ensures.count)
    (looks_within c.args.below.now c.args.own.now c.number_node.new.own c.args.page.now c.number_node.new.looks.items c.in_ok-_root._root j n c.requires
    node (rw c.as_slice-2.ensures.value at at))

pub last_places-requires-2 : goal.last_places-requires-2
last_places-requires-2 c = λ j n at.
    let node : NumbersNode shown c.args.below.now c.args.own.now c.number_node.new.own [] c.number_node.new.looks.items c.in_ok-_root._root c.args.page.now =
    rw c.new-looks.ensures.items at (c.in_ok-_root.ensures.looks c.args.page.now (root_there c.args.page.now)) in
    rw (c.len-below_keys.ensures.count, c.len-own_keys.ensures.count)
    (looks_within c.args.below.now c.args.own.now c.number_node.new.own c.args.page.now c.number_node.new.looks.items c.in_ok-_root._root j n c.requires
    node (rw c.as_slice-3.ensures.value at at))

pub returns : goal.returns
returns c =
    let node : NumbersNode shown c.args.below.now c.args.own.now c.number_node.new.own [] c.number_node.new.looks.items c.in_ok-_root._root c.args.page.now =
    rw c.new-looks.ensures.items at (c.in_ok-_root.ensures.looks c.args.page.now (root_there c.args.page.now)) in
    let seen : c.number_node.new.seen.items ≡ [] ++ seen_from 0 c.args.page.now =
    rw c.new-nodes.ensures.items at (c.in_ok-_root.ensures.seen c.args.page.now (root_there c.args.page.now)) in
    let r : Ranked = record {
      nodes = c.number_node.new.seen;
      ranks = c.in_ok-ranks.ranks;
      looks = c.number_node.new.looks;
      first = c.in_ok-first.first;
      last = c.in_ok-last.last;
    } in
    page_ranked c.args.below.now c.args.own.now c.number_node.new.own c.args.page.now r c.in_ok-_root._root node seen
    (rw c.as_slice.ensures.value at c.in_ok-ranks.ensures) (rw c.as_slice-2.ensures.value at c.in_ok-first.ensures)
    (rw c.as_slice-3.ensures.value at c.in_ok-last.ensures)

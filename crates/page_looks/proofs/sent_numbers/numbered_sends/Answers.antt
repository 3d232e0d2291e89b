use Rattle.std.proofs.Common.{◌++◌, []}
use Rattle.page_tree.proofs.Counting.{nodes-positive}
use Rattle.page_looks.specs.Sending.{sent, sends}
use Rattle.page_looks.specs.inside.Numbers.{StandFor}
use Rattle.page_looks.specs.inside.Numbering.{NumbersNode}
use Rattle.page_looks.specs.inside.Ranks.{subtrees}
use Rattle.page_looks.specs.declared.sent_numbers.SentNumbers.{SentNumbers}
use Rattle.page_looks.proofs.NumberingLaws.{knows_texts}
use Rattle.page_looks.proofs.LooksLaws.{root_there}
use Rattle.page_looks.proofs.SentLaws.{sends_long, sends_page}
use Rattle.page_looks.proofs.sent_numbers.numbered_sends.Goals as goal

pub number_node-requires : goal.number_node-requires
number_node-requires c = record {
  there = nodes-positive c.args.page.now;
  ready = rw c.as_slice-in_forms.ensures.value c.in_ok-nodes_there.ensures.all;
}

pub even_looks-requires-clause-first : goal.even_looks-requires-clause-first
even_looks-requires-clause-first c =
    let (known, ranked) = c.requires.ranked in
    rw (c.as_slice.ensures.value, c.as_slice-2.ensures.value) ranked.first

pub even_looks-requires-clause-long : goal.even_looks-requires-clause-long
even_looks-requires-clause-long c =
    let node : NumbersNode (sent c.args.fresh.now) c.args.below.now c.nodes_in_forms.new.own c.number_node.new.own [] c.number_node.new.looks.items c.in_ok-_root._root c.args.page.now =
    rw c.new-all.ensures.items at (c.in_ok-_root.ensures.looks c.args.page.now (root_there c.args.page.now)) in
    let (known, ranked) = c.requires.ranked in
    let (kept, knows) = c.requires.knows in
    let (w, own) = node kept (knows_texts c.args.below.now c.args.own.now c.nodes_in_forms.new.own [] [] [] kept c.in_ok-nodes_there.ensures.grown knows) in
    let stand : StandFor (kept ++ w.more) c.number_node.new.looks.items (subtrees (sends c.args.fresh.now c.args.page.now)) = rw w.pushed w.stand in
    rw (c.as_slice.ensures.value, c.as_slice-3.ensures.value)
    (sends_long c.args.fresh.now c.args.page.now known (kept ++ w.more) c.args.ranked.now c.number_node.new.looks.items ranked stand)

pub returns : goal.returns
returns c = λ known knows.
    let node : NumbersNode (sent c.args.fresh.now) c.args.below.now c.nodes_in_forms.new.own c.number_node.new.own [] c.number_node.new.looks.items c.in_ok-_root._root c.args.page.now =
    rw c.new-all.ensures.items at (c.in_ok-_root.ensures.looks c.args.page.now (root_there c.args.page.now)) in
    let numbers : SentNumbers = record {
      all = c.number_node.new.looks;
      own = c.in_ok-owns.owns;
      nothing = c.in_ok-nothing.nothing;
      even = c.in_ok-even.even;
    } in
    let (seen, ranked) = c.requires.ranked in
    sends_page c.args.fresh.now c.args.below.now c.nodes_in_forms.new.own c.number_node.new.own c.leaf_numbers.new.own c.leaf_number.new.own c.args.page.now seen
    c.args.ranked.now c.in_ok-_root._root numbers ranked node c.in_ok-owns.ensures.leaves (rw c.node_count-past.ensures at c.in_ok-nothing.ensures.leaf)
    (rw (c.as_slice.ensures.value, c.as_slice-3.ensures.value) at c.in_ok-even.ensures) known
    (knows_texts c.args.below.now c.args.own.now c.nodes_in_forms.new.own [] [] [] known c.in_ok-nodes_there.ensures.grown knows)

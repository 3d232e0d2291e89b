use Rattle.std.proofs.Common.{◌≡◌, ◌<◌, ◌+◌, suc, [], ◌∷◌, ◌++◌, if◌then◌else◌, option_map, arith, sym, ◌∙◌, ap}
use Rattle.page_tree.specs.Look.{child_count_at}
use Rattle.page_tree.specs.Number.{place_numbered, count_of}
use Rattle.page_tree.specs.inside.Kept.{is_element_of}
use Rattle.page_tree.specs.inside.Rows.{line_in}
use Rattle.page_tree.proofs.SiblingLaws.{before_there, counted_next}
use Rattle.page_tree.proofs.page.Page.count_before.Goals.{then-is_one, else-is_one}
use Rattle.page_tree.proofs.page.Page.count_before.Goals as goal

pub loop-i-preserved : goal.loop-i-preserved
loop-i-preserved c =
    let page = c.args.self.now in
    let place = place_numbered c.parent-parent.result page in
    let i = c.loop-i._i in
    let next : i + 1 ≡ suc i = omega arith in
    let up : c.parent-parent.result ≡ (line_in c.args.number c.table-2.result.now).spot.parent =
    c.parent-parent.ensures ∙ ap (λ ls. (line_in c.args.number ls).spot.parent) (c.table.ensures.lines ∙ sym c.table-2.ensures.lines) in
    let few = (before_there c.table-2.result.now page c.args.number c.table-2.ensures.lines c.requires).1 in
    let less : i < child_count_at place page = rw up (omega (arith, few, c.loop-i-test.true, c.position-i-end.ensures)) in
    let here : place_numbered c.loop-i.sibling page ≡ place ++ i ∷ [] = c.loop-i.invariant.here less in
    let step = counted_next (option_map (λ name. name.now) c.args.name) place page i c.loop-i.count less c.loop-i.invariant.counted in
    let told = rw (c.name_of.ensures, here) at c.is_one.ensures in
    let picked : c.if-is_one.count ≡ (if c.is_one.result then c.loop-i.count + 1 else c.loop-i.count) = elim c.if-is_one.branch [
      | then-is_one w ↦ let is = w.if-is_one in cc
      | else-is_one w ↦ let is = w.if-is_one in cc
    ] in
    record {
      here = λ more. rw next (c.nodes_under-sibling-in-loop-i.ensures.next place i here (rw next at more));
      counted = picked ∙ (rw (← told) at step);
      few = elim c.if-is_one.branch [
        | then-is_one w ↦ omega (arith, w.count-is, c.loop-i.invariant.few)
        | else-is_one w ↦ omega (arith, w.count-is, c.loop-i.invariant.few)
      ];
    }

pub returns : goal.returns
returns c =
    let page = c.args.self.now in
    let up : c.parent-parent.result ≡ (line_in c.args.number c.table-2.result.now).spot.parent =
    c.parent-parent.ensures ∙ ap (λ ls. (line_in c.args.number ls).spot.parent) (c.table.ensures.lines ∙ sym c.table-2.ensures.lines) in
    let all : c.loop-i._i ≡ (line_in c.args.number c.table-2.result.now).spot.position =
    omega (arith, c.loop-i-test.false, c.loop-i.auto._i-end, c.position-i-end.ensures) in
    rw (up, all) at c.loop-i.invariant.counted
    ∙ ap (count_of (is_element_of (option_map (λ name. name.now) c.args.name)))
    (sym (before_there c.table-2.result.now page c.args.number c.table-2.ensures.lines c.requires).0)

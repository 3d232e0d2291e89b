use Rattle.std.proofs.Common.{◌≡◌, ◌<◌, ◌+◌, suc, [], ◌∷◌, ◌++◌, arith, append_assoc, append-nil}
use Rattle.page_tree.specs.Look.{child_count_at}
use Rattle.page_tree.specs.Number.{place_numbered}
use Rattle.page_tree.proofs.ControlLaws.{text_step, text_end}
use Rattle.page_tree.proofs.page.Page.child_texts.Goals as goal

pub loop-i-preserved : goal.loop-i-preserved
loop-i-preserved c =
    let page = c.args.self.now in
    let place = place_numbered c.args.number page in
    let next : c.loop-i._i + 1 ≡ suc c.loop-i._i = omega arith in
    let less : c.loop-i._i < child_count_at place page = rw c.children_of-i-end.ensures at c.loop-i-test.true in
    let here : place_numbered c.loop-i.child page ≡ place ++ c.loop-i._i ∷ [] = c.loop-i.invariant.0 less in (
      λ more. rw next (c.nodes_under-child-in-loop-i.ensures.next place c.loop-i._i here (rw next at more)),
      rw (next, c.in_ok-joined.ensures, c.words_of.ensures, here, append_assoc, ← text_step place page c.loop-i._i less) c.loop-i.invariant.1,
    )

pub returns : goal.returns
returns c =
    let page = c.args.self.now in
    let place = place_numbered c.args.number page in
    let all : c.loop-i._i ≡ child_count_at place page = omega (arith, c.loop-i-test.false, c.loop-i.auto._i-end, c.children_of-i-end.ensures) in
    rw (all, text_end place page, append-nil) at c.loop-i.invariant.1

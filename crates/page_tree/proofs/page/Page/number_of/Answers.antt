use Rattle.std.proofs.Common.{◌≡◌, ◌≤◌, ◌∷◌, ◌++◌, get_or, drop, suc, sym, ◌∙◌, ap, drop-cons}
use Rattle.page_tree.specs.Look.{node_at, child_count_at}
use Rattle.page_tree.specs.Number.{place_numbered}
use Rattle.page_tree.proofs.Counting.{nodes-positive}
use Rattle.page_tree.proofs.NodesUnder.{root_numbered, no_node_past}
use Rattle.page_tree.proofs.page.Page.number_of.Goals as goal

pub loop-position-init : goal.loop-position-init
loop-position-init c = (ap (λ p. p ++ c.args.place.now) (root_numbered c.args.self.now), nodes-positive c.args.self.now)

pub returns-then-position-children_of : goal.returns-then-position-children_of
returns-then-position-children_of c =
    let page = c.args.self.now in
    let place = c.args.place.now in
    let i = c.loop-position.position-index in
    let way = place_numbered c.loop-position.number page in
    let here : drop i place ≡ get_or place i 0 ∷ drop (suc i) place =
    drop-cons place i 0 (rw c.as_slice-position-items.ensures at c.loop-position-test.true) in
    let past : child_count_at way page ≤ get_or place i 0 =
    rw (c.children_of.ensures, c.as_slice-position-items.ensures) at c.if-position-children_of.true in
    ap (λ p. node_at p page) (sym (ap (λ rest. way ++ rest) (sym here) ∙ c.loop-position.invariant.0))
    ∙ no_node_past page way (get_or place i 0) (drop (suc i) place) past

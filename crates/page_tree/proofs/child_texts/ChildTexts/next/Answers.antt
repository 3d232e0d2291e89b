use Rattle.std.proofs.Common.{◌≡◌, [], ℕ, ◌≤◌, ap, sym, ◌∙◌, arith}
use Rattle.page_tree.specs.Look.{child_count_at}
use Rattle.page_tree.specs.Number.{place_numbered}
use Rattle.page_tree.specs.Started.{words_in}
use Rattle.page_tree.specs.inside.Kept.{children_at}
use Rattle.page_tree.specs.inside.Table.{trees_behind}
use Rattle.page_tree.proofs.ControlLaws.{words_end}
use Rattle.page_tree.proofs.child_texts.ChildTexts.next.Goals as goal

pub returns-then-self-children_of : goal.returns-then-self-children_of
returns-then-self-children_of c =
    let page = c.self.inside.page.now in
    let parent = place_numbered c.self.inside.parent page in
    let at : c.self.inside.position ≡ child_count_at parent page = omega (arith, c.if-self-children_of.true, c.self.invariant.within, c.children_of.ensures) in
    let none : c.args.self.now ≡ [] = sym c.self.view_is ∙ ap (λ k. words_in (trees_behind k (children_at parent page))) at ∙ words_end parent page in
    (none, none)

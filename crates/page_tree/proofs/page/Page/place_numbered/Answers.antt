use Rattle.std.proofs.Common.{◌≡◌, [], ◌∷◌, ◌++◌, reverse, refl, sym, ◌∙◌, ap, arith, append_assoc}
use Rattle.std.proofs.lemmas.List.{reverse-append}
use Rattle.page_tree.specs.Number.{place_numbered}
use Rattle.page_tree.specs.inside.Rows.{line_in}
use Rattle.page_tree.proofs.NodesUnder.{up_there}
use Rattle.page_tree.proofs.page.Page.place_numbered.Goals as goal

pub loop-at-smaller : goal.loop-at-smaller
loop-at-smaller c =
    rw (c.parent-at.ensures) (up_there c.table-in-loop-at-2.result.now c.args.self.now c.loop-at.at c.table-in-loop-at-2.ensures.lines
    c.loop-at.invariant.1 (omega (arith, c.loop-at-test.true))).0

pub loop-at-preserved : goal.loop-at-preserved
loop-at-preserved c =
    let page = c.args.self.now in
    let at = c.loop-at.at in
    let (less, place) = up_there c.table-in-loop-at-2.result.now page at c.table-in-loop-at-2.ensures.lines c.loop-at.invariant.1
    (omega (arith, c.loop-at-test.true)) in
    let same : c.table-in-loop-at.result.now ≡ c.table-in-loop-at-2.result.now = c.table-in-loop-at.ensures.lines
    ∙ sym c.table-in-loop-at-2.ensures.lines in
    let position : c.position.result ≡ (line_in at c.table-in-loop-at-2.result.now).spot.position = c.position.ensures
    ∙ ap (λ ls. (line_in at ls).spot.position) same in
    let parent = c.parent-at.ensures in
    let turned : reverse c.push.new.self.items ≡ c.position.result ∷ reverse c.loop-at.positions.items =
    rw c.in_ok-push.ensures.items (reverse-append c.loop-at.positions.items (c.position.result ∷ [])) in (
      c.loop-at.invariant.0 ∙ ap (λ p. p ++ reverse c.loop-at.positions.items) place
          ∙ append_assoc (place_numbered (line_in at c.table-in-loop-at-2.result.now).spot.parent page)
          ((line_in at c.table-in-loop-at-2.result.now).spot.position ∷ []) (reverse c.loop-at.positions.items)
          ∙ rw (turned, position, parent) refl,
      omega (arith, less, parent, c.loop-at.invariant.1),
    )

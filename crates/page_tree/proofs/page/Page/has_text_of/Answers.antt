use Rattle.std.proofs.Common.{◌∙◌, arith, ap, sym, ◌≤◌, length}
use Rattle.page_tree.proofs.SideBySide.{apart, rest_decides}
use Rattle.page_tree.proofs.page.Page.has_text_of.Goals as goal

pub returns-then-ne : goal.returns-then-ne
returns-then-ne c =
    let a = c.piece-piece in
    let b = c.piece-other_piece in
    let differ = rw (a.ensures.piece, b.ensures.piece) at c.if-ne.ensures in
    let p = a.new.self.piece.now in
    let q = b.new.self.piece.now in
    let within : c.min-many.result ≤ length p = omega (arith, c.min-many.ensures, ap length a.ensures.piece) in
    let other_within : c.min-many.result ≤ length q = omega (arith, c.min-many.ensures, ap length b.ensures.piece) in
    (λ yes. cc, λ same. absurd (apart p q _ _ c.min-many.result within other_within differ (a.ensures.same ∙ c.loop-left.invariant.1 same ∙ sym b.ensures.same)))

pub loop-left-preserved : goal.loop-left-preserved
loop-left-preserved c =
    let a = c.piece-piece in
    let b = c.piece-other_piece in
    let like = rw (a.ensures.piece, b.ensures.piece) at c.if-ne.ensures in
    let p = a.new.self.piece.now in
    let q = b.new.self.piece.now in
    let within : c.min-many.result ≤ length p = omega (arith, c.min-many.ensures, ap length a.ensures.piece) in
    let other_within : c.min-many.result ≤ length q = omega (arith, c.min-many.ensures, ap length b.ensures.piece) in
    let rest = rest_decides p q _ _ c.min-many.result within other_within like in (
      λ same. c.loop-left.invariant.0 (sym a.ensures.same ∙ rest.0 (sym c.pass.ensures ∙ same ∙ c.pass-in-loop-left.ensures) ∙ b.ensures.same),
      λ same. c.pass.ensures ∙ rest.1 (a.ensures.same ∙ c.loop-left.invariant.1 same ∙ sym b.ensures.same) ∙ sym c.pass-in-loop-left.ensures,
    )

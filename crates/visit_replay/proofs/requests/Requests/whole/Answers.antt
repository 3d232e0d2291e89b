use Rattle.std.proofs.Common.{◌≡◌, [], ◌∷◌, ◌++◌, sym, ap, ◌∙◌, append_assoc, append-nil}
use Rattle.visit_replay.proofs.requests.Requests.whole.Goals as goal

pub loop-alloc-preserved : goal.loop-alloc-preserved
loop-alloc-preserved c =
    let next = c.advance.ensures.next c.loop-alloc-test.true in
    let all = c.loop-alloc.all.items in
    ap (λ them. them ++ c.advance.new.self.1) (c.in_ok-add_told.ensures next.0 next.2) ∙ append_assoc all (next.0 ∷ []) c.advance.new.self.1
    ∙ ap (λ rest. all ++ rest) (sym next.1) ∙ c.loop-alloc.invariant

pub returns : goal.returns
returns c =
    let none : c.loop-alloc.telling.1 ≡ [] = c.advance.ensures.none c.loop-alloc-test.false in
    sym (append-nil c.loop-alloc.all.items) ∙ ap (λ rest. c.loop-alloc.all.items ++ rest) (sym none) ∙ c.loop-alloc.invariant

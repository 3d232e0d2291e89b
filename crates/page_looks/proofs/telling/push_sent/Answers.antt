use Rattle.std.proofs.Common.{sym, ◌∙◌, subst}
use Rattle.page_tree.specs.Number.{place_numbered}
use Rattle.page_tree.specs.inside.Kept.{attributes_at, children_at}
use Rattle.page_looks.specs.inside.Shapes.{told_texts}
use Rattle.page_looks.specs.inside.Numbering.{PushesTexts}
use Rattle.page_looks.proofs.FormLaws.{form_pushed, in_forms_grown}
use Rattle.page_looks.proofs.telling.push_sent.Goals as goal

pub returns-then-eq : goal.returns-then-eq
returns-then-eq c =
    let place = place_numbered c.args.number c.args.page.now in
    form_pushed c.args.below.now c.args.own.now c.push_told.new.own c.args.fresh.now c.args.key.now.items c.push_told.new.key.items c.push_under.new.key.items
    c.args.name.now (attributes_at place c.args.page.now) (children_at place c.args.page.now) (sym c.if-eq.true ∙ c.eq.ensures)
    (subst (λ ps. PushesTexts c.args.below.now c.args.own.now c.push_told.new.own c.args.key.now.items c.push_told.new.key.items (told_texts ps)) c.in_ok-told.ensures
    (rw c.as_slice.ensures.value at c.in_ok-push_told.ensures))
    (c.in_ok-push_under.ensures _ c.args.fresh.now
    (in_forms_grown c.args.below.now c.args.own.now c.push_told.new.own _ _ _ c.args.fresh.now c.args.page.now c.args.all.now c.in_ok-push_told.ensures c.requires.all))

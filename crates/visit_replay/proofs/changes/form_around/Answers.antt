use Rattle.std.proofs.Common.{◌≡◌, true, false, sym, ap, ◌∙◌, arith}
use Rattle.page_tree.specs.Control.{control_at}
use Rattle.page_tree.specs.Number.{place_numbered}
use Rattle.visit_replay.specs.Aim.{form_around, is_form}
use Rattle.visit_replay.proofs.FormsAround.{around_child}
use Rattle.visit_replay.proofs.changes.form_around.Goals as goal

pub returns-then-is_form-clause-place : goal.returns-then-is_form-clause-place
returns-then-is_form-clause-place c =
    let t = c.args.page.now in
    let over = place_numbered c.in-Some.parent t in
    let (less, (i, place)) = c.in-Some.ensures in
    let form : is_form (control_at over t) ≡ true = ap is_form (sym c.control_of.ensures) ∙ sym c.is_form.ensures ∙ c.if-is_form.true in
    sym (around_child t over i true form) ∙ ap (form_around t) (sym place) ∙ c.loop-parent.invariant.around

pub loop-parent-preserved : goal.loop-parent-preserved
loop-parent-preserved c =
    let t = c.args.page.now in
    let over = place_numbered c.in-Some.parent t in
    let (less, (i, place)) = c.in-Some.ensures in
    let form : is_form (control_at over t) ≡ false = ap is_form (sym c.control_of.ensures) ∙ sym c.is_form.ensures ∙ c.if-is_form.false in
    record {
      there = omega (arith, less, c.loop-parent.invariant.there);
      around = sym (around_child t over i false form) ∙ ap (form_around t) (sym place) ∙ c.loop-parent.invariant.around;
    }

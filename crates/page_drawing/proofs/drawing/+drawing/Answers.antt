use Rattle.std.proofs.lemmas.Result.{on_ok_weaker}
use Rattle.page_drawing.proofs.Adds.{adds_more}
use Rattle.page_drawing.proofs.drawing.+drawing.Goals as goal

pub draw_inside-returns : goal.draw_inside-returns
draw_inside-returns t c =
    let said = adds_more _ _ _ c.in_ok-add_notes_before.ensures c.in_ok-add_field.ensures in
    let shown = adds_more _ _ _ said c.in_ok-draw_content.ensures.inert in
    record { inert = on_ok_weaker c.add_gap.result (adds_more _ _ _ (adds_more _ _ _ shown c.in_ok-add_notes_behind.ensures)) c.add_gap.ensures }

use Rattle.warp_run.proofs.BufferLaws.{adds_as, ◌>>◌}
use Rattle.warp_run.proofs.ReportLaws.{accepted, refused}
use Rattle.warp_run.proofs.reporting.add_decision.Goals as goal

pub returns-in-Ok : goal.returns-in-Ok
returns-in-Ok g c =
    adds_as (c.add.ensures >> c.add-2.ensures >> c.add_with_number.ensures >> c.add-3.ensures >> c.add-4.ensures >> c.add-5.ensures >> c.add-in-Ok.ensures)
    (rw (c.text.ensures, c.choice_word.ensures, c.in-Ok.is) (accepted _ _ _))

pub returns-in-Err : goal.returns-in-Err
returns-in-Err g c =
    adds_as (c.add.ensures >> c.add-2.ensures >> c.add_with_number.ensures >> c.add-3.ensures >> c.add-4.ensures >> c.add-5.ensures >> c.add_refusal.ensures)
    (rw (c.text.ensures, c.choice_word.ensures, c.in-Err.is) (refused _ _ _ c.in-Err.fault))

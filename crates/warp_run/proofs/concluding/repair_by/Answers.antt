use Rattle.warp_run.proofs.concluding.repair_by.Goals as goal

pub returns-in-Ok-clause-repaired : goal.returns-in-Ok-clause-repaired
returns-in-Ok-clause-repaired g c = rw c.finding.ensures at (rw c.patch.ensures at (rw c.new-hooks.ensures at c.in-Ok.ensures.ok))

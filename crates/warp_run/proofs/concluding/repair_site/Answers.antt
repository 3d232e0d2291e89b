use Rattle.warp_run.proofs.concluding.repair_site.Goals as goal

pub returns-clause-repaired : goal.returns-clause-repaired
returns-clause-repaired g c = rw c.table-table.ensures at c.repair_by.ensures.repaired

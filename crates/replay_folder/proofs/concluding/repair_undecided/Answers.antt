use Rattle.std.proofs.Common.{◌∙◌}
use Rattle.replay_folder.proofs.RepairedLaws.{undecided}
use Rattle.replay_folder.proofs.concluding.repair_undecided.Goals as goal

pub returns-clause-repaired : goal.returns-clause-repaired
returns-clause-repaired g c =
    undecided c.args.site.now c.args.ends.now c.args.gathered.now c.site-plain.result.now c.table-table.result.now c.own_pages-own.result.now c.patch.result.now c.finding.result.now c.from.result c.in-Ok.desk c.new.result
    c.site-plain.ensures c.table-table.ensures c.own_pages-own.ensures c.patch.ensures c.finding.ensures (c.from.ensures ∙ c.in_ok-clients.ensures) c.in-Ok.ensures.ok c.new.ensures

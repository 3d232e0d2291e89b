use Rattle.std.proofs.Common.{Err, subst}
use Rattle.site_file.specs.inside.{SaysFirst}
use Rattle.site_file.proofs.TakenLaws.{first_reads, begun, first_refused, no_first}
use Rattle.site_file.proofs.file.begin_file.Goals as goal

pub returns-in-Err-clause-reads : goal.returns-in-Err-clause-reads
returns-in-Err-clause-reads g c = first_reads _ _ c.requires.fresh _ c.in-Err.ensures

pub returns-in-Err-clause-refused : goal.returns-in-Err-clause-refused
returns-in-Err-clause-refused g c = rw c.no_line.ensures (no_first _ _ c.requires.fresh c.in-Err.fault c.in-Err.ensures)

pub returns-in-Err-read_first-clause-reads : goal.returns-in-Err-read_first-clause-reads
returns-in-Err-read_first-clause-reads g c = first_reads _ _ c.requires.fresh _ c.in-Ok.ensures

pub returns-in-Err-read_first-clause-refused : goal.returns-in-Err-read_first-clause-refused
returns-in-Err-read_first-clause-refused g c =
    rw c.nothing_added.ensures (first_refused _ _ c.requires.fresh c.in-Err-read_first.none c.in-Ok.ensures (subst (λ line. SaysFirst line (Err c.in-Err-read_first.none)) c.line.ensures c.in-Err-read_first.ensures))

pub returns-in-Ok-read_first-clause-reads : goal.returns-in-Ok-read_first-clause-reads
returns-in-Ok-read_first-clause-reads g c = first_reads _ _ c.requires.fresh _ c.in-Ok.ensures

pub returns-in-Ok-read_first-clause-taken : goal.returns-in-Ok-read_first-clause-taken
returns-in-Ok-read_first-clause-taken g c =
    let (plain, is, answers) = c.in-Ok-read_first.ensures in
    begun _ _ c.requires.fresh c.begin.result plain c.in-Ok.ensures (rw c.line.ensures at is) (c.begin.ensures plain answers)

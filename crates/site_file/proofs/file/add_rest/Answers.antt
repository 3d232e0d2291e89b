use Rattle.std.proofs.Common.{◌+◌, Err, refl, sym, ap, ◌∙◌, subst, arith}
use Rattle.std.proofs.lemmas.Result.{err_from_is_err_and}
use Rattle.byte_streams.proofs.ReadingLaws.{reads_none}
use Rattle.site_file.specs.Addition.{addition_in}
use Rattle.site_file.specs.SiteFile.{FileIsUndecided}
use Rattle.site_file.specs.inside.{TakesFileLine}
use Rattle.site_file.proofs.TakenLaws.{next_reads, taken_more, next_refused, ended, count_few}
use Rattle.site_file.proofs.file.add_rest.Goals as goal

pub loop-fault-init : goal.loop-fault-init
loop-fault-init g c = record { taken = c.requires.taken; reads = reads_none FileIsUndecided _ _ refl refl }

pub loop-fault-preserved : goal.loop-fault-preserved
loop-fault-preserved g c =
    let way = c.loop-fault.invariant in
    let one = c.in_ok-add_one-in-Ok.ensures in record {
      taken = taken_more _ _ _ _ way.taken _ one.0 c.in-Ok.ensures (ap addition_in (sym c.line.ensures) ∙ one.1) one.2;
      reads = next_reads _ _ _ _ way.taken _ _ way.reads c.in-Ok.ensures;
    }

pub returns-in-Err : goal.returns-in-Err
returns-in-Err g c =
    let way = c.loop-fault.invariant in record {
      reads = next_reads _ _ _ _ way.taken _ _ way.reads c.in-Err.ensures;
      taken = rw c.kept_at_end.ensures (ended _ _ _ _ way.taken c.in-Err.fault c.has_rest.result c.in-Err.ensures c.has_rest.ensures);
    }

pub returns-in_err-add_one-in-Ok : goal.returns-in_err-add_one-in-Ok
returns-in_err-add_one-in-Ok g c =
    let way = c.loop-fault.invariant in
    let p = err_from_is_err_and c.from_residual.result c.from_residual.ensures.1 in record {
      reads = next_reads _ _ _ _ way.taken _ _ way.reads c.in-Ok.ensures;
      taken = rw (p.1, p.2) (next_refused _ _ _ _ way.taken c.loop-fault.growing c.in_err-add_one-in-Ok.field-0.0 c.in-Ok.ensures (subst (λ line. TakesFileLine (c.loop-fault.taken + 1) line c.loop-fault.growing c.loop-fault.growing (Err c.in_err-add_one-in-Ok.field-0.0)) c.line.ensures c.in_err-add_one-in-Ok.ensures));
    }

pub overflow_add-taken : goal.overflow_add-taken
overflow_add-taken g c = omega (arith, count_few _ _ _ _ c.loop-fault.invariant.taken _ c.in-Err.ensures)

pub overflow_add-taken-in-Ok : goal.overflow_add-taken-in-Ok
overflow_add-taken-in-Ok g c = omega (arith, count_few _ _ _ _ c.loop-fault.invariant.taken _ c.in-Ok.ensures)

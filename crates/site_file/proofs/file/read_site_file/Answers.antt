use Rattle.std.proofs.lemmas.Result.{err_from_is_err_and}
use Rattle.byte_streams.proofs.ReadingLaws.{reads_then}
use Rattle.site_file.specs.SiteFile.{FileIsUndecided}
use Rattle.site_file.proofs.file.read_site_file.Goals as goal

pub returns-in_err-all-clause-reads : goal.returns-in_err-all-clause-reads
returns-in_err-all-clause-reads g c = reads_then FileIsUndecided FileIsUndecided _ _ _ (λ rest is. is) c.in_ok-growing.ensures.reads c.add_rest.ensures.reads

pub returns-in_err-all-clause-refused : goal.returns-in_err-all-clause-refused
returns-in_err-all-clause-refused g c =
    let p = err_from_is_err_and c.from_residual-in_err-all.result c.from_residual-in_err-all.ensures.1 in rw (p.1, p.2) c.in_err-all.ensures.taken

pub returns-clause-reads : goal.returns-clause-reads
returns-clause-reads g c = reads_then FileIsUndecided FileIsUndecided _ _ _ (λ rest is. is) c.in_ok-growing.ensures.reads c.in_ok-all.ensures.reads

pub returns-clause-site : goal.returns-clause-site
returns-clause-site g c = let (file, is, stands) = c.in_ok-all.ensures.taken in (file, is, c.finish.ensures file stands)

use Rattle.std.proofs.Common.{Err, ap}
use Rattle.byte_streams.specs.Cutting.{ending_of}
use Rattle.byte_streams.specs.Reading.{input}
use Rattle.warp_run.proofs.IntakeLaws.{line_cut, bad_refused}
use Rattle.warp_run.proofs.intake.read_site.Goals as goal

pub returns-in-Err-read-clause-refused : goal.returns-in-Err-read-clause-refused
returns-in-Err-read-clause-refused g c =
    let old = c.args.lines.now in let new = c.advance.new.self in let line = c.line.result.now in let fault = c.in-Err-read.fault in
    rw c.bad_site.ensures.status
    (bad_refused (input new) line (ending_of new.answers) fault (line_cut old new line c.requires.fresh c.in-Ok.ensures c.line.ensures)
    (λ e. c.in-Err-read.ensures.not_json (ap Err e)) (λ e. c.in-Err-read.ensures.bad_member (ap Err e)))

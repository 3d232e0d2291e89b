use Rattle.warp_server.proofs.ServeLaws.{serves}
use Rattle.warp_server.proofs.program.serving.serve_callers.Goals as goal

pub returns : goal.returns
returns g c =
    let concluded = c.in-Ok-conclude.concluded in let done = c.in-Ok-conclude.ensures in
    rw (c.written_status.ensures, c.status_of.ensures)
    (serves _ c.args.site.now c.args.lanes c.args.rounds _ _ c.in-Ok.gathered c.in-Ok.ensures.ok (rw done.repaired at done.leave) _ concluded.report
    (rw done.repaired at done.report))

use Rattle.std.proofs.Common.{refl}
use Rattle.warp_run.proofs.running.run_lines.Goals as goal

pub returns-in-Err-clause-met : goal.returns-in-Err-clause-met
returns-in-Err-clause-met g c = c.in-Err.ensures.none _ (record { puts_are = refl; contents_are = refl })

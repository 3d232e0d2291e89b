use Rattle.std.proofs.Common.{rules, subst}
use Rattle.lanes_in_turn.specs.Taking.{never}
use Rattle.upload_lanes.specs.Threads.{Gathers}
use Rattle.warp_server.proofs.OnlyLaws.{round_never}
use Rattle.warp_server.proofs.program.answering.take_to_ends.Goals as goal

pub returns-clause-ok : goal.returns-clause-ok
returns-clause-ok g c =
    subst (λ room. Gathers never room c.args.earlier c.args.uploads.items c.args.quota c.in_ok-gather_again.field-0) c.room.ensures
    (round_never _ c.room.result c.args.earlier c.args.uploads.items c.args.quota c.in_ok-gather_again.field-0 (search rules) c.in_ok-gather_again.ensures.ok)

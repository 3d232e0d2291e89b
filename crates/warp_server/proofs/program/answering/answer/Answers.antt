use Rattle.std.proofs.Common.{subst}
use Rattle.site_line.specs.Reading.{site_quota}
use Rattle.upload_lanes.specs.Threads.{GathersFirst}
use Rattle.lanes_in_turn.specs.Taking.{never}
use Rattle.warp_server.specs.Rounds.{server_room}
use Rattle.warp_server.proofs.HeadlineLaws.{all_prefixes, replayed}
use Rattle.warp_server.proofs.program.answering.answer.Goals as goal

pub returns-clause-headline : goal.returns-clause-headline
returns-clause-headline g c =
    let gathered = c.in-Ok.gathered in
    record {
      has = all_prefixes (site_quota c.args.site.now) never server_room c.args.uploads.items gathered (subst (λ quota. GathersFirst never server_room c.args.uploads.items quota gathered) c.quota.ensures (c.new-none.result, c.new-none.ensures.clients, c.in-Ok.ensures.ok));
      replayed = rw c.in_ok-repaired.ensures.repaired (replayed c.args.site.now gathered);
      leave = c.in_ok-repaired.ensures.leave;
    }

use Rattle.std.proofs.Common.{◌+◌, drop}
use Rattle.replay_workers.proofs.ByClient.{drop_here}
use Rattle.replay_folder.specs.inside.{told_in}
use Rattle.replay_folder.proofs.SummaryLaws.{end_told}
use Rattle.replay_folder.proofs.summaries.last_of_all.Goals as goal

pub loop-end-preserved : goal.loop-end-preserved
loop-end-preserved c = λ client.
    let ends = c.args.ends.now in let i = c.loop-end.end-index in
    end_told ends (drop i ends) (drop (i + 1) ends) client c.end-item.result (told_in c.loop-end.last client) (told_in c.put_end.new.last client)
    (drop_here ends i c.end-item.result c.loop-end-test.true c.end-item.is) (c.in_ok-put_end.ensures client) (c.loop-end.invariant client)

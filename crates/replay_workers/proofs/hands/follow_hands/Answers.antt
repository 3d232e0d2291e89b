use Rattle.std.proofs.Common.{arith}
use Rattle.replay_workers.specs.inside.Clients.{followed}
use Rattle.replay_workers.proofs.HandLists.{hands_given_if}
use Rattle.replay_workers.proofs.hands.follow_hands.Goals as goal

pub returns : goal.returns
returns g c =
    hands_given_if (followed c.args.finding.now) (λ one. one.items) (λ hand. hand.items) (λ hand. hand.items) (λ all. all.items)
    c.args.hands.items c.in_ok-answers.answers.items c.all_given.result (omega (arith, c.in_ok-answers.ensures.len))
    (λ k one within. let job = (c.in_ok-answers.ensures.each k one within).1 in (job.job, job.job_is, job.call.met))
    c.all_given.ensures

use Rattle.std.proofs.Common.{arith}
use Rattle.replay_workers.specs.inside.Clients.{followed}
use Rattle.replay_workers.proofs.HandLists.{as_many, shares, collected}
use Rattle.replay_workers.proofs.hands.follow_at_once.Goals as goal

pub collect-requires-clause-some : goal.collect-requires-clause-some
collect-requires-clause-some g c =
    let many = as_many (followed c.args.finding.now) (λ one. one.items) (λ hand. hand.items) (λ hand. hand.items) c.in_ok-hands.hands.items
    c.in_ok-all.all.items c.in_ok-all.ensures c.args.parts.items c.args.threads
    (omega (arith, c.in_ok-hands.ensures.count)) c.in_ok-hands.ensures.each in
    omega (arith, many, c.in_ok-hands.ensures.count, c.requires)

pub collect-requires-clause-shares : goal.collect-requires-clause-shares
collect-requires-clause-shares g c =
    shares (followed c.args.finding.now) (λ one. one.items) (λ hand. hand.items) (λ hand. hand.items) c.in_ok-hands.hands.items
    c.in_ok-all.all.items c.in_ok-all.ensures c.args.parts.items c.args.threads
    (omega (arith, c.in_ok-hands.ensures.count)) c.in_ok-hands.ensures.each
    c.len-count.result (omega (arith, c.len-count.ensures))

pub returns : goal.returns
returns g c =
    collected (followed c.args.finding.now) (λ one. one.items) (λ hand. hand.items) (λ hand. hand.items) c.in_ok-hands.hands.items
    c.in_ok-all.all.items c.in_ok-all.ensures c.args.parts.items c.args.threads
    (omega (arith, c.in_ok-hands.ensures.count)) c.in_ok-hands.ensures.each
    c.collect.result.items c.requires (omega (arith, c.collect.ensures.count, c.len-count.ensures)) c.collect.ensures.each

use Rattle.std.proofs.Common.{◌∙◌, ap, sym, arith, Some}
use Rattle.std.proofs.lemmas.List.Elements.{All-pop}
use Rattle.replay_workers.specs.Draws.{IsSeatOf}
use Rattle.replay_workers.proofs.Steps.{merges}
use Rattle.replay_workers.proofs.Gathering.{took_in}
use Rattle.replay_workers.proofs.claims.Claims.gather.Goals as goal

pub unreachable-requires : goal.unreachable-requires
unreachable-requires c =
    let none = c.in_default.ensures.cases.0 in
    let workers = ap (λ p. p.workers) c.self.view_is in
    omega (arith, none, c.requires.all, workers, c.self.invariant.workers.some)

pub join_seat-requires : goal.join_seat-requires
join_seat-requires c =
    let kept = c.loop-seat.invariant in
    let same = ap (λ p. p.table_id) c.self.view_is in
    let of = (All-pop (IsSeatOf c.args.self.now) _ _ (Some c.in-Some-pop.seat) c.in-Some-pop.ensures.items kept.1).1 in (
      c.into_pass-pass.ensures.of ∙ of.0 ∙ sym same,
      kept.0.of ∙ sym same,
      kept.0.whole,
      omega (arith, c.self.invariant.one),
      merges _ _ _ _ _,
    )

pub loop-seat-preserved : goal.loop-seat-preserved
loop-seat-preserved c =
    let kept = c.loop-seat.invariant in
    let own = c.into_pass-pass.ensures in
    let joined = c.join_seat.ensures in
    let rest = All-pop (IsSeatOf c.args.self.now) _ _ (Some c.in-Some-pop.seat) c.in-Some-pop.ensures.items kept.1 in (
      took_in _ _ _ _ _ _ c.into_pass-pass.result c.join_seat.new.seat kept.0 c.in-Some-pop.ensures.items rest.1.0
          own.of own.whole own.list joined.0 joined.2,
      rest.0,
    )

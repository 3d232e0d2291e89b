use Rattle.std.proofs.Common.{◌∙◌, ap, sym, arith}
use Rattle.replay_workers.proofs.Steps.{forks}
use Rattle.replay_workers.proofs.claims.Claims.split.Goals as goal

pub split_seat-own-requires : goal.split_seat-own-requires
split_seat-own-requires c =
    let kept = c.loop.invariant in
    let first = kept.1 in
    let workers = ap (λ p. p.workers) c.self.view_is ∙ c.requires.terms.1 in
    let made = ap (λ me. me.0.made) first in
    let more = c.loop-test.true in (
      kept.0 ∙ sym (ap (λ p. p.table_id) c.self.view_is),
      omega (arith, c.self.invariant.one),
      forks _ _ _ (ap (λ me. me.0.leads) first) (omega (arith, more, made, workers)),
    )

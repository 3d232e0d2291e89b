use Rattle.std.proofs.Common.{◌∙◌, ap, sym, arith}
use Rattle.replay_workers.specs.Draws.{has_end}
use Rattle.replay_workers.specs.inside.Rule.{own_list}
use Rattle.replay_workers.proofs.Steps.{draws}
use Rattle.replay_workers.proofs.claims.Claims.draw.Goals as goal

pub fetch_add-number-requires : goal.fetch_add-number-requires
fetch_add-number-requires c =
    let it = c.seat.inside in
    let all = c.self.invariant in
    let of = c.requires.of in
    let count = ap (λ p. p.count) c.self.view_is ∙ sym of.1 in
    let unspent = ap (λ n. has_end n (own_list it.pass.me.0)) count ∙ ap (λ d. has_end c.args.seat.now.count d.drawn) c.seat.view_is ∙ c.requires.unspent in (
      ap (λ d. d.table_id) c.seat.view_is ∙ of.0 ∙ sym (ap (λ p. p.table_id) c.self.view_is),
      omega (arith, all.one),
      draws _ _ _ _ all.small all.workers.few c.seat.invariant.one unspent,
    )

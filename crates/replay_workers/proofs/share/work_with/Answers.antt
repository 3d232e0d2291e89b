use Rattle.std.proofs.Common.{◌≡◌, ◌<◌, ◌-◌, true, false, map, IfOk, subst, sym, ap, ◌∙◌, arith}
use Rattle.visit_replay.specs.RepairedSite.{site_by}
use Rattle.replay_workers.specs.Draws.{Draws, IsSeatOf, is_spent, with_draw}
use Rattle.replay_workers.specs.Work.{own_page_outcomes, HasDrawn}
use Rattle.replay_workers.specs.inside.Clients.{plain_page}
use Rattle.replay_workers.proofs.Divided.{nearer, next_after}
use Rattle.replay_workers.proofs.Working.{before_end, ends}
use Rattle.replay_workers.proofs.share.work_with.Goals as goal

pub loop-alloc-smaller : goal.loop-alloc-smaller
loop-alloc-smaller g c =
    let seat = c.loop-alloc.seat in
    let x = c.draw-number.result in
    let way = c.loop-alloc.invariant.working in
    let still : is_spent (with_draw seat x) ≡ false = ap is_spent (sym c.draw-number.ensures.seat) ∙ sym c.spent.ensures ∙ c.if-spent.false in
    let below = before_end seat x way.unspent still in
    subst (λ new. c.args.claims.now.count - next_after new.drawn < c.args.claims.now.count - next_after seat.drawn) (sym c.draw-number.ensures.seat)
    (nearer c.args.claims.now.count seat.drawn x c.draw-number.ensures.above (omega (arith, below, way.of.1)))

pub returns-then-spent : goal.returns-then-spent
returns-then-spent g c =
    let own = own_page_outcomes (site_by g.H.SiteLaw.page_of g.H.SiteLaw.signals c.args.hooks.now c.args.patch.now c.args.finding.now) (map plain_page c.args.own_pages.now) (map (λ visit. visit.now) c.args.visits.now) in
    let seat = c.loop-alloc.seat in
    let x = c.draw-number.result in
    let way = c.loop-alloc.invariant.working in
    let new : c.draw-number.new.seat ≡ with_draw seat x = c.draw-number.ensures.seat in
    let spent : is_spent c.draw-number.new.seat ≡ true = sym c.spent.ensures ∙ c.if-spent.true in
    record {
      of = subst (IsSeatOf c.args.claims.now) (sym new) way.of;
      spent = spent;
      done = subst (λ (s : Draws). IfOk c.loop-alloc.done (λ done. HasDrawn own c.args.seat s done.items)) (sym new)
          (ends (λ done. done.items) own c.args.claims.now c.args.seat seat c.loop-alloc.done x way (sym (ap is_spent new) ∙ spent) (way.of.1 ∙ sym c.requires.of.1));
    }

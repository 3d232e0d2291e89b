use Rattle.std.proofs.Common.{◌≡◌, ◌+◌, is_some, true, false, sym, ◌∙◌, subst}
use Rattle.visit_replay.specs.inside.KeptDeeds.{deed_seen}
use Rattle.visit_replay.specs.inside.Trails.{asked_at}
use Rattle.visit_replay.proofs.FirstAsked.{HasFirstOf, first_more, first_stays}
use Rattle.visit_replay.proofs.first_deeds.first_by_number.Goals.{then-asks+in_ok-put_first, else-asks}
use Rattle.visit_replay.proofs.first_deeds.first_by_number.Goals as goal

pub loop-place-preserved : goal.loop-place-preserved
loop-place-preserved c =
    let trail = c.args.trail.now in
    let place = c.loop-place.place in
    elim c.if-asks.branch [
      | then-asks+in_ok-put_first w ↦
          let some : is_some (asked_at trail place) ≡ true = sym c.asks.ensures ∙ w.if-asks.true in
          subst (HasFirstOf trail (place + 1)) (sym w.places-is)
          (first_more trail place (deed_seen w.seen.result) c.loop-place.places w.put_first.new.places w.seen.ensures some
          (rw w.request.ensures at w.in_ok-put_first.ensures) c.loop-place.invariant)
      | else-asks w ↦
          let none : is_some (asked_at trail place) ≡ false = sym c.asks.ensures ∙ w.if-asks.false in
          subst (HasFirstOf trail (place + 1)) (sym w.places-is) (first_stays trail place c.loop-place.places none c.loop-place.invariant)
    ]

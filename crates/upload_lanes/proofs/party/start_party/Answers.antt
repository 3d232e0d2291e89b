use Rattle.std.proofs.Common.{◌≡◌, ap, arith, refl, length, map, subst, sym, ◌∙◌}
use Rattle.std.specs.Arc.{arc_value}
use Rattle.std.specs.List.{AllByRecursion}
use Rattle.lanes_in_turn.specs.Taking.{IsFreshLane}
use Rattle.lane_queue.specs.Opened.{IsOpenedQueue}
use Rattle.upload_lanes.proofs.PartyLaws.{duty_is, ends_are, putters_count}
use Rattle.upload_lanes.specs.inside.Party.{Fits, AreEnds, AreSending, without_upload}
use Rattle.upload_lanes.specs.inside.Recording.{IsDuty}
use Rattle.upload_lanes.specs.declared.recorder.Duty.{Duty}
use Rattle.upload_lanes.proofs.party.start_party.Goals as goal

pub start_uploads-requires-clause-ends : goal.start_uploads-requires-clause-ends
start_uploads-requires-clause-ends g c κs within =
    subst (λ queue. AreEnds queue c.in-Ok.putters.items) (sym c.in_ok-queue-in-Ok.ensures.ok) (ends_are c.in-Ok.queue c.len.result c.in-Ok.putters.items c.in-Ok.ensures.opened.1.putters_are)

pub start_uploads-requires-clause-count : goal.start_uploads-requires-clause-count
start_uploads-requires-clause-count g c κs within =
    let count = putters_count c.in-Ok.queue c.len.result c.in-Ok.putters.items c.in-Ok.ensures.opened.1.putters_are in
    omega (arith, count, c.len.ensures, c.args.lanes.len)

pub start_record-requires-clause-duty : goal.start_record-requires-clause-duty
start_record-requires-clause-duty g c κs within =
    let duty : Duty g.row.R.Denot = record { taker = c.in-Ok.taker; lanes = c.in_ok-lanes-in-Ok.field-0.lanes } in
    let count : c.len.result ≡ length c.args.lanes.items = omega (arith, c.len.ensures, c.args.lanes.len) in
    let opened = subst (λ n. IsOpenedQueue n c.of-size.result.places c.in-Ok.queue c.in-Ok.taker c.in-Ok.putters.items) count c.in-Ok.ensures.opened.1 in
    subst (λ queue. IsDuty queue duty) (sym (c.in_ok-clone-in-Ok.ensures.cases ∙ c.in_ok-queue-in-Ok.ensures.ok))
    (duty_is c.args.lanes.items c.requires.fresh.fresh c.in-Ok.queue c.of-size.result.places duty c.in-Ok.putters.items c.requires.fresh.lanes opened c.in_ok-lanes-in-Ok.ensures.lanes)

pub returns-in_ok-recorder-in-Ok-clause-runs : goal.returns-in_ok-recorder-in-Ok-clause-runs
returns-in_ok-recorder-in-Ok-clause-runs g c =
    let fresh = sym c.of-fresh.ensures in
    record {
      running = record {
        of = c.in_ok-recorder-in-Ok.ensures.queue ∙ c.in_ok-clone-in-Ok.ensures.cases;
        lanes_are = ap (λ duty. duty.lanes.items) c.in_ok-recorder-in-Ok.ensures.duty ∙ c.in_ok-lanes-in-Ok.ensures.lanes ∙ ap (λ lanes. map without_upload lanes.items) fresh;
        fresh = subst (λ lanes. AllByRecursion IsFreshLane lanes.items) fresh c.requires.fresh.fresh;
        sending = subst (λ lanes. AreSending (arc_value c.in_ok-queue-in-Ok.queue) c.of-size.result.size lanes.items (map (λ handle. handle.promise) c.in_ok-lanes-in-Ok.field-0.uploads.items)) fresh
            c.in_ok-lanes-in-Ok.ensures.sending;
        fits = subst (λ places. Fits c.args.room places c.of-size.result.size) (sym (ap (λ queue. queue.room) c.in_ok-queue-in-Ok.ensures.ok ∙ c.in-Ok.ensures.opened.1.room_is)) c.of-size.ensures;
      };
      room_is = refl;
      halt_is = c.in_ok-recorder-in-Ok.ensures.halt;
    }

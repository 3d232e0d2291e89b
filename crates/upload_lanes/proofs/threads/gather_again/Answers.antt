use Rattle.std.proofs.Common.{ℕ, ◌+◌, Bool, ap, arith, bytes_eq, length, map, subst, sym, ◌∙◌}
use Rattle.std.proofs.lemmas.List.{length-map}
use Rattle.indexmap.specs.IndexMap.{get, insert_all}
use Rattle.lanes_in_turn.specs.Round.{AreRoundLanes, IsNoRound, without_lanes}
use Rattle.lanes_in_turn.specs.Taking.{refused_by, begun_lane, TakesLane}
use Rattle.upload_lanes.specs.Threads.{read_ahead, AreTaken}
use Rattle.upload_lanes.proofs.Zips.{zip_length}
use Rattle.upload_lanes.proofs.threads.gather_again.Goals as goal

pub take_lanes-requires-clause-fresh : goal.take_lanes-requires-clause-fresh
take_lanes-requires-clause-fresh g c = λ κs within. c.in_ok-earlier.ensures.fresh

pub take_lanes-requires-clause-lanes : goal.take_lanes-requires-clause-lanes
take_lanes-requires-clause-lanes g c = λ κs within.
    let begun = c.in_ok-earlier.ensures.begun in
    subst AreRoundLanes (sym (ap length begun.lanes_are ∙ length-map c.args.uploads.items (begun_lane (get bytes_eq c.args.earlier.clients) c.args.quota))) begun.is_round.lanes

pub end_round-requires-clause-room : goal.end_round-requires-clause-room
end_round-requires-clause-room g c = λ κs within.
    let begun = c.in_ok-earlier.ensures.begun in
    let size = zip_length (TakesLane (read_ahead c.args.room (length c.in_ok-earlier.field-0.lanes.items) + refused_by c.in-Ok.stop)) c.in_ok-earlier.field-0.lanes.items c.in-Ok.lanes.items c.in-Ok.ensures.lanes_are in
    omega (arith, size, begun.room)

pub returns-in-Ok-clause-ok : goal.returns-in-Ok-clause-ok
returns-in-Ok-clause-ok g c =
    let begun = c.in_ok-earlier.ensures.begun in let lanes = c.in-Ok.lanes.items in let known = get bytes_eq c.args.earlier.clients in
    let allows : ℕ → Bool → Type 0 = λ n answer. g.H.Fn.post c.args.halt.now (n, tt) answer in
    record {
      is_round = begun.is_round;
      lanes = lanes;
      taken = subst (AreTaken allows (read_ahead c.args.room (length c.args.uploads.items)) (map (begun_lane known c.args.quota) c.args.uploads.items) lanes) (sym c.end_round.ensures.stop)
          (subst (λ n. AreTaken allows (read_ahead c.args.room n) (map (begun_lane known c.args.quota) c.args.uploads.items) lanes c.in-Ok.stop) (length-map c.args.uploads.items (begun_lane known c.args.quota))
          (subst (λ fresh. AreTaken allows (read_ahead c.args.room (length fresh)) fresh lanes c.in-Ok.stop) begun.lanes_are c.in-Ok.ensures));
      clients_are = c.end_round.ensures.clients ∙ ap (λ entries. insert_all bytes_eq (without_lanes entries) lanes) begun.clients;
    }

pub returns-in-Err-clause-refused : goal.returns-in-Err-clause-refused
returns-in-Err-clause-refused g c =
    let begun = c.in_ok-earlier.ensures.begun in
    record {
      why = subst (IsNoRound c.args.uploads.items) (sym c.no_memory.ensures.fault) begun.is_round;
      clients = ap (λ earlier. earlier.clients.entries) c.no_memory.ensures.earlier ∙ begun.clients;
      stop = ap (λ earlier. earlier.stop) c.no_memory.ensures.earlier ∙ begun.stop;
      unread = λ differs. absurd (differs c.no_memory.ensures.fault);
    }

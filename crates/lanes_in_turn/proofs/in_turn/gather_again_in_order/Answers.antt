use Rattle.std.proofs.Common.{◌≤◌, ap, arith, bytes_eq, length, subst, sym, ◌∙◌}
use Rattle.std.proofs.lemmas.List.{length-map}
use Rattle.indexmap.specs.IndexMap.{get, insert_all, spare}
use Rattle.lanes_in_turn.specs.Round.{without_lanes, IsFollowed}
use Rattle.lanes_in_turn.specs.Taking.{begun_lane}
use Rattle.lanes_in_turn.specs.inside.{HaveFewTaken, AreTogether}
use Rattle.lanes_in_turn.proofs.FreshLaws.{few_fresh, together_fresh}
use Rattle.lanes_in_turn.proofs.RoundLaws.{written}
use Rattle.lanes_in_turn.proofs.in_turn.gather_again_in_order.Goals as goal

pub take_all-stop-requires-clause-few : goal.take_all-stop-requires-clause-few
take_all-stop-requires-clause-few g c = λ κs within.
    subst HaveFewTaken (sym c.as_mut_slice.ensures.value) (few_fresh c.in_ok-earlier.field-0.lanes.items c.in_ok-earlier.ensures.fresh)

pub take_all-stop-requires-clause-together : goal.take_all-stop-requires-clause-together
take_all-stop-requires-clause-together g c = λ κs within.
    subst AreTogether (sym c.as_mut_slice.ensures.value) (together_fresh c.in_ok-earlier.field-0.lanes.items c.in_ok-earlier.ensures.fresh)

pub end_round-requires-clause-room : goal.end_round-requires-clause-room
end_round-requires-clause-room g c = λ κs within.
    let begun = c.in_ok-earlier.ensures.begun in let old = c.in_ok-earlier.field-0.lanes in let new = c.take_all-stop.new.lanes in
    let followed = c.take_all-stop.ensures (get bytes_eq c.args.earlier.clients) c.args.quota c.args.uploads.items c.requires.untouched (c.as_mut_slice.ensures.value ∙ begun.lanes_are) in
    let size = ap length begun.lanes_are ∙ length-map c.args.uploads.items (begun_lane (get bytes_eq c.args.earlier.clients) c.args.quota) in
    let same = written old.items new old.len (omega (arith, followed.lanes_are.count, size, c.as_mut_slice.ensures.len)) in
    subst (λ lanes. length lanes ≤ spare c.in_ok-earlier.field-0.earlier.clients) (sym same) (omega (arith, followed.lanes_are.count, size, begun.room))

pub returns-clause-ok : goal.returns-clause-ok
returns-clause-ok g c =
    let begun = c.in_ok-earlier.ensures.begun in let old = c.in_ok-earlier.field-0.lanes in let new = c.take_all-stop.new.lanes in
    let known = get bytes_eq c.args.earlier.clients in
    let followed = c.take_all-stop.ensures known c.args.quota c.args.uploads.items c.requires.untouched (c.as_mut_slice.ensures.value ∙ begun.lanes_are) in
    let size = ap length begun.lanes_are ∙ length-map c.args.uploads.items (begun_lane known c.args.quota) in
    let same = written old.items new old.len (omega (arith, followed.lanes_are.count, size, c.as_mut_slice.ensures.len)) in
    record {
      is_round = begun.is_round;
      lanes = new;
      taken = subst (IsFollowed known c.args.quota c.args.uploads.items c.args.schedule.now new) (sym c.end_round.ensures.stop) followed;
      clients_are = c.end_round.ensures.clients ∙ ap (insert_all bytes_eq (without_lanes c.in_ok-earlier.field-0.earlier.clients.entries)) same
          ∙ ap (λ entries. insert_all bytes_eq (without_lanes entries) new) begun.clients;
    }

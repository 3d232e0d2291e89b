use Rattle.std.proofs.Common.{◌≡◌, None, ap, bytes_eq, subst, sym, ◌∙◌}
use Rattle.upload_reader.specs.Upload.{IsUntouched}
use Rattle.lanes_in_turn.specs.Round.{resumed_upload}
use Rattle.lanes_in_turn.specs.Taking.{new_lane}
use Rattle.indexmap.specs.IndexMap.{insert_entry}
use Rattle.lanes_in_turn.proofs.EndLaws.{gathered_alone}
use Rattle.lanes_in_turn.proofs.alone.gather_alone.Goals as goal

pub take_alone-stop-requires-clause-fresh : goal.take_alone-stop-requires-clause-fresh
take_alone-stop-requires-clause-fresh g c = λ κs within. record {
  upload = c.resume.result;
  upload_is = ap (λ lane. lane.upload) c.new_lane.ensures;
  untouched = subst IsUntouched (sym c.resume.ensures) (record { given = c.requires.untouched.given; ending = c.requires.untouched.ending; place = c.requires.untouched.place });
  behind = ap (λ upload. upload.lane.earlier) c.resume.ensures ∙ c.new.ensures ∙ sym (ap (λ lane. lane.log.session) c.new_lane.ensures ∙ ap (λ log. log.session) c.new-log.ensures);
  begun = record { taken = ap (λ lane. lane.taken) c.new_lane.ensures; end = ap (λ lane. lane.end) c.new_lane.ensures };
}

pub returns : goal.returns
returns g c =
    let lane = c.take_alone-stop.new.lane in
    let resumed : c.resume.result ≡ resumed_upload c.args.upload None = c.resume.ensures ∙ ap (λ session. record c.args.upload { lane = record c.args.upload.lane { earlier = session } }) c.new.ensures in
    gathered_alone c.args.upload c.args.quota c.in_ok-client.client c.in_ok-copy.field-0 c.new-log.result c.new_lane.result lane
    (record { clients = c.put_one.new.clients; stop = c.take_alone-stop.result }) (c.in_ok-client.ensures ∙ c.client.ensures) c.in_ok-copy.ensures c.new-log.ensures (c.new_lane.ensures ∙ ap (new_lane c.new-log.result) resumed)
    c.take_alone-stop.ensures.taken c.take_alone-stop.ensures.stops
    (subst (λ entries. c.put_one.new.clients.entries ≡ insert_entry bytes_eq entries lane.0 lane.1) (c.reserve.ensures.entries ∙ c.new-clients.ensures.empty) c.put_one.ensures.entries)

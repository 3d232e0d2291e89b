use Rattle.std.proofs.Common.{◌+◌, Some, ap, arith, length, map, subst, sym, ◌∙◌}
use Rattle.std.proofs.lemmas.List.{length-map}
use Rattle.std.specs.Arc.{arc_value}
use Rattle.crossbeam_queue.specs.Passes.{view}
use Rattle.lanes_in_turn.proofs.RoundLaws.{written}
use Rattle.upload_lanes.proofs.SendingLaws.{own_upload}
use Rattle.upload_lanes.proofs.StopLaws.{fits_at, takes_by_one}
use Rattle.upload_lanes.specs.inside.Party.{AreJoined, AreUploads, TakesByOne, without_upload}
use Rattle.upload_lanes.proofs.party.join_party.Goals as goal

pub returns : goal.returns
returns g c =
    let recorded = c.join-taker.result in
    let allows = g.H.Halt.allows c.args.party.recorder.promise.halt.value in
    let fresh = c.args.party.fresh.value.items in
    let firsts = c.args.party.recorder.promise.duty.value.lanes.items in
    let promises = map (λ handle. handle.promise) c.args.party.uploads.items in
    let got = (view recorded.taker).got in
    let new = c.join_uploads.new.lanes in
    let places = (arc_value c.args.party.queue).room in
    let joined = subst (λ queue. AreJoined queue.room promises got recorded.lanes.items new) c.deref.ensures
    (subst (λ old. AreJoined c.deref.result.now.room promises got old new) c.as_mut_slice.ensures.value c.join_uploads.ensures.joined) in
    let same = written recorded.lanes.items new recorded.lanes.len (omega (arith, joined.count, recorded.lanes.len)) in
    subst (λ lanes. TakesByOne allows (c.args.party.room + 1) fresh lanes recorded.stop) (sym same)
    (takes_by_one allows c.args.party.room places firsts recorded.lanes.items new promises got recorded.stop recorded.items
    (λ k promise at. fits_at c.args.party.room places c.args.party.size promises c.requires.fits c.requires.sending.sizes k promise at) c.join-taker.ensures.0.recording joined
    fresh c.requires.lanes_are c.requires.fresh c.requires.sending.same c.join-taker.ensures.1)

pub join_uploads-requires-clause-uploads : goal.join_uploads-requires-clause-uploads
join_uploads-requires-clause-uploads g c κs within =
    subst (λ queue. AreUploads queue (map (λ handle. handle.promise) c.args.party.uploads.items)) (sym c.deref.ensures) c.requires.sending.uploads

pub join_uploads-requires-clause-count : goal.join_uploads-requires-clause-count
join_uploads-requires-clause-count g c κs within =
    let fresh = c.args.party.fresh.value.items in
    let promises = map (λ handle. handle.promise) c.args.party.uploads.items in
    sym (length-map c.args.party.uploads.items (λ handle. handle.promise)) ∙ sym (length-map promises (λ promise. Some promise.upload.value)) ∙ ap length c.requires.sending.same ∙ length-map fresh own_upload
    ∙ sym (length-map fresh without_upload) ∙ ap length (sym c.requires.lanes_are) ∙ sym c.join-taker.ensures.0.recording.lanes_are.count ∙ ap length (sym c.as_mut_slice.ensures.value)

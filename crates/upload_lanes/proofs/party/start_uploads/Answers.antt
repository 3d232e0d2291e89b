use Rattle.std.proofs.Common.{◌++◌, ◌∷◌, ◌≡◌, ◌≤◌, ◌∙◌, [], Some, ap, arith, is_some, length, map, refl, subst, sym}
use Rattle.std.proofs.lemmas.List.{map-append}
use Rattle.std.specs.Arc.{arc_value}
use Rattle.std.specs.Option.{option_to_list}
use Rattle.std.specs.Vec.{vec_capacity}
use Rattle.std.specs.Vec.Iter.{into_iter_items}
use Rattle.lane_queue.specs.Opened.{IsNewPutterOf}
use Rattle.upload_reader.specs.Upload.{IsUntouched}
use Rattle.upload_lanes.proofs.SendingLaws.{IsSending, lanes_all, next_end, next_fresh, same_sending, sending_all, sends_none, sends_one}
use Rattle.upload_lanes.proofs.party.start_uploads.Goals as goal

pub loop-client-init : goal.loop-client-init
loop-client-init g c =
    let all = c.args.lanes.items in
    let room : length all ≤ vec_capacity c.in_ok-uploads.uploads = omega (arith, c.len.ensures, c.args.lanes.len, c.in_ok-uploads.ensures.capacity) in
    let room' : length all ≤ vec_capacity c.in_ok-rest.rest = omega (arith, c.len-2.ensures, c.args.lanes.len, c.in_ok-rest.ensures.capacity) in
    subst (λ rest. IsSending (arc_value c.args.queue.now) c.args.size all rest c.in_ok-rest.rest.items (map (λ handle. handle.promise) c.in_ok-uploads.uploads.items) (into_iter_items c.into_iter-putters.result)
    (vec_capacity c.in_ok-uploads.uploads) (vec_capacity c.in_ok-rest.rest)) (sym c.into_iter-client-iterator.ensures.into_iter_gives.0)
    (same_sending (arc_value c.args.queue.now) c.args.size all all (sym c.in_ok-rest.ensures.items) (ap (map (λ handle. handle.promise)) (sym c.in_ok-uploads.ensures.items)) (sym c.into_iter-putters.ensures.rest) refl refl
    (sends_none (arc_value c.args.queue.now) c.args.size all c.args.putters.items (vec_capacity c.in_ok-uploads.uploads) (vec_capacity c.in_ok-rest.rest) c.requires.ends c.requires.count room room' c.requires.fresh))

pub unwrap-requires : goal.unwrap-requires
unwrap-requires g c =
    let rest = into_iter_items c.next-in-loop-client.new.self in
    let first = c.next-in-loop-client.ensures.items ∙ ap (λ found. option_to_list found ++ rest) c.unwrap-putter.ensures in
    ap is_some (next_fresh (arc_value c.args.queue.now) c.args.size c.args.lanes.items c.loop-client.client-iterator.rest.items c.next.new.self.rest.items c.loop-client.rest.items
    (map (λ handle. handle.promise) c.loop-client.uploads.items) (into_iter_items c.loop-client.putters) rest (vec_capacity c.loop-client.uploads) (vec_capacity c.loop-client.rest)
    c.unwrap-putter.result (c.in-Some.client, c.in-Some.lane) first c.in-Some.ensures.steps.0 c.loop-client.invariant).upload_is

pub start_upload-requires-clause-fresh : goal.start_upload-requires-clause-fresh
start_upload-requires-clause-fresh g c κs within =
    let rest = into_iter_items c.next-in-loop-client.new.self in
    let first = c.next-in-loop-client.ensures.items ∙ ap (λ found. option_to_list found ++ rest) c.unwrap-putter.ensures in
    subst (λ queue. IsNewPutterOf queue c.unwrap-putter.result) (sym c.in_ok-clone.ensures.cases)
    (next_end (arc_value c.args.queue.now) c.args.size c.args.lanes.items c.loop-client.client-iterator.rest.items c.next.new.self.rest.items c.loop-client.rest.items
    (map (λ handle. handle.promise) c.loop-client.uploads.items) (into_iter_items c.loop-client.putters) rest (vec_capacity c.loop-client.uploads) (vec_capacity c.loop-client.rest)
    c.unwrap-putter.result (c.in-Some.client, c.in-Some.lane) first c.in-Some.ensures.steps.0 c.loop-client.invariant).0

pub start_upload-requires-clause-untouched : goal.start_upload-requires-clause-untouched
start_upload-requires-clause-untouched g c κs within =
    let rest = into_iter_items c.next-in-loop-client.new.self in
    let first = c.next-in-loop-client.ensures.items ∙ ap (λ found. option_to_list found ++ rest) c.unwrap-putter.ensures in
    let fresh = next_fresh (arc_value c.args.queue.now) c.args.size c.args.lanes.items c.loop-client.client-iterator.rest.items c.next.new.self.rest.items c.loop-client.rest.items
    (map (λ handle. handle.promise) c.loop-client.uploads.items) (into_iter_items c.loop-client.putters) rest (vec_capacity c.loop-client.uploads) (vec_capacity c.loop-client.rest)
    c.unwrap-putter.result (c.in-Some.client, c.in-Some.lane) first c.in-Some.ensures.steps.0 c.loop-client.invariant in
    let both : Some fresh.upload ≡ Some c.unwrap.result = sym fresh.upload_is ∙ c.unwrap.ensures in
    let same : fresh.upload ≡ c.unwrap.result = cc in
    subst IsUntouched same fresh.untouched

pub loop-client-preserved : goal.loop-client-preserved
loop-client-preserved g c =
    let rest = into_iter_items c.next-in-loop-client.new.self in
    let first = c.next-in-loop-client.ensures.items ∙ ap (λ found. option_to_list found ++ rest) c.unwrap-putter.ensures in
    let handle = c.in_ok-start_upload.field-0 in
    let promises = ap (map (λ one. one.promise)) c.push_reserved.ensures.items ∙ map-append (λ one. one.promise) c.loop-client.uploads.items (handle ∷ []) in
    same_sending (arc_value c.args.queue.now) c.args.size c.args.lanes.items c.next.new.self.rest.items (sym c.push_reserved-in-loop-client.ensures.items) (sym promises) refl
    (sym c.push_reserved.ensures.capacity) (sym c.push_reserved-in-loop-client.ensures.capacity)
    (sends_one (arc_value c.args.queue.now) c.args.size c.args.lanes.items c.loop-client.client-iterator.rest.items c.next.new.self.rest.items c.loop-client.rest.items
    (map (λ handle. handle.promise) c.loop-client.uploads.items) (into_iter_items c.loop-client.putters) rest (vec_capacity c.loop-client.uploads) (vec_capacity c.loop-client.rest)
    c.unwrap-putter.result (c.in-Some.client, c.in-Some.lane) first c.in-Some.ensures.steps.0 c.loop-client.invariant
    handle.promise (c.in_ok-start_upload.ensures.queue ∙ c.in_ok-clone.ensures.cases) c.in_ok-start_upload.ensures.putter (ap Some c.in_ok-start_upload.ensures.upload ∙ sym c.unwrap.ensures) c.in_ok-start_upload.ensures.size)

pub returns-clause-lanes : goal.returns-clause-lanes
returns-clause-lanes g c =
    let none : length c.loop-client.client-iterator.rest.items ≡ 0 = omega (arith, c.in-None.ensures.steps) in
    lanes_all (arc_value c.args.queue.now) c.args.size c.args.lanes.items c.loop-client.client-iterator.rest.items c.loop-client.rest.items (map (λ handle. handle.promise) c.loop-client.uploads.items)
    (into_iter_items c.loop-client.putters) (vec_capacity c.loop-client.uploads) (vec_capacity c.loop-client.rest) none c.loop-client.invariant

pub returns-clause-sending : goal.returns-clause-sending
returns-clause-sending g c =
    let none : length c.loop-client.client-iterator.rest.items ≡ 0 = omega (arith, c.in-None.ensures.steps) in
    sending_all (arc_value c.args.queue.now) c.args.size c.args.lanes.items c.loop-client.client-iterator.rest.items c.loop-client.rest.items (map (λ handle. handle.promise) c.loop-client.uploads.items)
    (into_iter_items c.loop-client.putters) (vec_capacity c.loop-client.uploads) (vec_capacity c.loop-client.rest) none c.loop-client.invariant

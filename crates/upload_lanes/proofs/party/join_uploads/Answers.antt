use Rattle.std.proofs.Common.{◌≡◌, ◌∷◌, [], ap, arith, length, map, refl, set, slice_get, subst, ◌∙◌}
use Rattle.std.proofs.lemmas.List.{length-map, map-append}
use Rattle.crossbeam_queue.specs.Passes.{view}
use Rattle.lane_queue.specs.Items.{of_lane}
use Rattle.upload_lanes.proofs.JoinLaws.{joins_all, joins_none, joins_one, promise_at}
use Rattle.upload_lanes.specs.inside.Party.{TellsParcels, with_upload}
use Rattle.upload_lanes.proofs.party.join_uploads.Goals as goal

pub loop-handle-init : goal.loop-handle-init
loop-handle-init g c = (
  c.requires.of,
  refl,
  joins_none c.args.queue.now.room (map (λ handle. handle.promise) c.args.handles.items) (view c.args.taker.now).got c.args.lanes.now (length-map c.args.handles.items (λ handle. handle.promise) ∙ c.requires.count),
)

pub join_upload-upload-requires-clause-same : goal.join_upload-upload-requires-clause-same
join_upload-upload-requires-clause-same g c κs within =
    let promises = map (λ handle. handle.promise) c.args.handles.items in
    let left = map (λ handle. handle.promise) c.pop.new.self.items in
    let last = ap (map (λ handle. handle.promise)) c.in-Some.ensures.items ∙ map-append (λ handle. handle.promise) c.pop.new.self.items (c.in-Some.handle ∷ []) in
    let here = promise_at c.args.queue.now.room promises (map (λ handle. handle.promise) c.loop-handle.handles.items) left c.in-Some.handle.promise (view c.args.taker.now).got c.args.lanes.now c.loop-handle.lanes last c.loop-handle.invariant.2 in
    (c.requires.uploads (length left) c.in-Some.handle.promise here).0

pub loop-handle-preserved : goal.loop-handle-preserved
loop-handle-preserved g c =
    let promises = map (λ handle. handle.promise) c.args.handles.items in
    let left = map (λ handle. handle.promise) c.pop.new.self.items in
    let last = ap (map (λ handle. handle.promise)) c.in-Some.ensures.items ∙ map-append (λ handle. handle.promise) c.pop.new.self.items (c.in-Some.handle ∷ []) in
    let got = (view c.args.taker.now).got in
    let here = promise_at c.args.queue.now.room promises (map (λ handle. handle.promise) c.loop-handle.handles.items) left c.in-Some.handle.promise got c.args.lanes.now c.loop-handle.lanes last c.loop-handle.invariant.2 in
    let lane = (c.requires.uploads (length left) c.in-Some.handle.promise here).1 in
    let told = subst (λ all. TellsParcels c.args.queue.now.room c.in-Some.handle.promise c.join_upload-upload.result (of_lane (view c.in-Some.handle.promise.putter.value).lane all)) c.loop-handle.invariant.1 c.join_upload-upload.ensures.told in
    let size = length-map c.pop.new.self.items (λ handle. handle.promise) in
    let same : c.len.result ≡ length left = omega (arith, c.len.ensures, c.pop.new.self.len, size) in (
      c.join_upload-upload.ensures.of,
      c.join_upload-upload.ensures.got ∙ c.loop-handle.invariant.1,
      joins_one c.args.queue.now.room promises (map (λ handle. handle.promise) c.loop-handle.handles.items) left c.in-Some.handle.promise got c.args.lanes.now c.loop-handle.lanes last c.loop-handle.invariant.2
          c.join_upload-upload.result c.put_upload.new.lanes
          (subst (λ k. TellsParcels c.args.queue.now.room c.in-Some.handle.promise c.join_upload-upload.result (of_lane k got)) lane told)
          (λ was at. subst (λ k. c.put_upload.new.lanes ≡ set c.loop-handle.lanes k (with_upload was c.join_upload-upload.result)) same (c.put_upload.ensures was (ap (slice_get c.loop-handle.lanes) same ∙ at))),
    )

pub returns : goal.returns
returns g c =
    let size = length-map c.loop-handle.handles.items (λ handle. handle.promise) in
    let none : length (map (λ handle. handle.promise) c.loop-handle.handles.items) ≡ 0 = omega (arith, size, c.loop-handle.handles.len, c.in_default.ensures.cases.0) in
    record {
      joined =
          joins_all c.args.queue.now.room (map (λ handle. handle.promise) c.args.handles.items) (map (λ handle. handle.promise) c.loop-handle.handles.items) (view c.args.taker.now).got c.args.lanes.now c.loop-handle.lanes none
          c.loop-handle.invariant.2;
    }

use Rattle.std.proofs.Common.{◌≡◌, refl, subst, sym, ◌∙◌}
use Rattle.std.specs.Arc.{arc_value}
use Rattle.std.specs.List.{AllByRecursion}
use Rattle.crossbeam_queue.specs.Passes.{view}
use Rattle.lane_queue.specs.Queue.{IsPassOf}
use Rattle.upload_lanes.proofs.UploaderLaws.{few_uploaded}
use Rattle.upload_lanes.proofs.Zips.{all_each, mapped_at}
use Rattle.upload_lanes.proofs.party.end_party.Goals as goal

pub loop-handle-init : goal.loop-handle-init
loop-handle-init g c =
    subst (AllByRecursion (λ handle. handle.promise.queue.value ≡ arc_value c.args.party.queue)) (sym c.into_iter-handle-iterator.ensures.into_iter_gives.0)
    (all_each (λ handle. handle.promise.queue.value ≡ arc_value c.args.party.queue) c.args.party.uploads.items
    (λ k handle at. (c.requires.sending.uploads k handle.promise (mapped_at (λ one. one.promise) c.args.party.uploads.items _ k handle refl at)).0))

pub finish-ended-requires-clause-lanes : goal.finish-ended-requires-clause-lanes
finish-ended-requires-clause-lanes g c =
    let all = subst (AllByRecursion (λ handle. handle.promise.queue.value ≡ arc_value c.args.party.queue)) c.in-Some.ensures.steps.0 c.loop-handle.invariant in
    subst (λ queue. IsPassOf queue c.join-upload.result.putter) (all.0 ∙ sym c.deref.ensures) c.join-upload.ensures.of

pub finish-ended-requires-clause-few : goal.finish-ended-requires-clause-few
finish-ended-requires-clause-few g c =
    let done = c.join-upload.ensures in
    few_uploaded c.in-Some.handle.promise.size.value (view c.join-upload.result.putter).put c.in-Some.handle.promise.upload.value c.join-upload.result.upload done.read done.put

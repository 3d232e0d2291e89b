use Rattle.std.proofs.Common.{◌≡◌, ℕ, ◌≤◌, length, map, slice_get, Some, IfSome, subst, ◌∙◌}
use Rattle.upload_reader.specs.Session.{request_of}
use Rattle.visit_replay.specs.inside.Told.{told_marked}
use Rattle.visit_replay.specs.inside.Trails.{asked_from}
use Rattle.visit_replay.proofs.FormerLaws.{all_other}
use Rattle.visit_replay.proofs.differing.former_of.Goals as goal

pub returns : goal.returns
returns c =
    let visit = c.args.visit.now in
    let fresh = c.args.fresh.now in
    let trail = c.args.trail.now in
    let end = c.asking_end.result in
    let own = c.in_ok-own.own in
    let marks = c.in_ok-marks.marks.items in
    let same = c.as_slice.ensures in
    let few : end ≤ length visit.events = subst (λ them. end ≤ length them) same c.asking_end.ensures.within in
    let none : (k : ℕ) → end ≤ k → IfSome (slice_get visit.events k) (λ event. request_of event ≡ 0) =
    subst (λ them. (k : ℕ) → end ≤ k → IfSome (slice_get them k) (λ event. request_of event ≡ 0)) same c.asking_end.ensures.rest in
    let slice : c.as_slice-2.result.now ≡ marks = c.as_slice-2.ensures.value in
    let kept : map (told_marked c.kept_for-own.result) marks ≡ map (told_marked (Some own)) marks = rw slice at c.kept_for-own.ensures.told in
    c.in_ok-former.ensures ∙ kept ∙ c.in_ok-marks.ensures.told ∙ all_other fresh visit end own c.in_ok-own.ensures few none trail.address (asked_from trail 0)

-- The lanes of a round as they begin.
use Rattle.std.proofs.Common.{◌≡◌, ℕ, List, [], ◌∷◌, ◌++◌, map, Option, Some, None, refl, sym, ap, subst, ◌∙◌, append-nil, arith}
use Rattle.std.specs.List.{AllByRecursion}
use Rattle.upload_reader.specs.Stream.{messages_of}
use Rattle.upload_reader.specs.Upload.{UploadState, IsUntouched}
use Rattle.lanes_in_turn.specs.Round.{log_before, resumed_upload}
use Rattle.lanes_in_turn.specs.Taking.{begun_lane, IsFreshLane}
use Rattle.lanes_in_turn.specs.inside.{HaveFewTaken, IsTogether, AreTogether}
use Rattle.lanes_in_turn.proofs.RoundLaws.{all_at}
use Rattle.lanes_in_turn.proofs.AloneLaws.{some_only}
use Rattle.lanes_in_turn.specs.declared.gathered.LaneResult.{LaneResult}

module _ {R : Type 0} (known : List ℕ → Option (LaneResult R)) (quota : ℕ) where
  fresh_behind : (upload : UploadState R) (found : Option (LaneResult R)) → IsUntouched upload → IsUntouched (resumed_upload upload found)
  fresh_behind upload None untouched = record { given = untouched.given; ending = untouched.ending; place = untouched.place }
  fresh_behind upload (Some lane) untouched = record { given = untouched.given; ending = untouched.ending; place = untouched.place }

  at_one : (upload : UploadState R) (found : Option (LaneResult R)) → (resumed_upload upload found).lane.earlier ≡ (log_before quota upload found).session
  at_one upload None = refl
  at_one upload (Some lane) = refl

  pub fresh_begun : (uploads : List (UploadState R)) → AllByRecursion IsUntouched uploads → AllByRecursion IsFreshLane (map (begun_lane known quota) uploads)
  fresh_begun [] all = tt
  fresh_begun (upload ∷ uploads) all = (
    record { upload = resumed_upload upload (known upload.client); upload_is = refl; untouched = fresh_behind upload (known upload.client) all.0; behind = at_one upload (known upload.client); begun = record { taken = refl; end = refl } },
    fresh_begun uploads all.1,
  )

module _ {R : Type 0} where
  pub few_fresh : (lanes : List (List ℕ × LaneResult R)) → AllByRecursion IsFreshLane lanes → HaveFewTaken lanes
  few_fresh lanes all k lane at now is =
      let none = (all_at IsFreshLane lanes k lane all at).begun.taken in
      omega (arith, none)

  pub together_begun : (lane : List ℕ × LaneResult R) → IsFreshLane lane → IsTogether lane.1
  together_begun lane fresh now is =
      let same = some_only fresh.upload now (sym fresh.upload_is ∙ is) in
      subst (λ upload. lane.1.log.session ≡ upload.lane.earlier ++ messages_of upload.given) same
      (sym fresh.behind ∙ sym (append-nil fresh.upload.lane.earlier) ∙ ap (λ given. fresh.upload.lane.earlier ++ messages_of given) (sym fresh.untouched.given))

  pub together_fresh : (lanes : List (List ℕ × LaneResult R)) → AllByRecursion IsFreshLane lanes → AreTogether lanes
  together_fresh lanes all k lane at = together_begun lane (all_at IsFreshLane lanes k lane all at)

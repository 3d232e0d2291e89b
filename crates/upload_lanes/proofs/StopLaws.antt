-- What a recorder made of its lanes, once their uploaders have ended.
use Rattle.std.proofs.Common.{◌≡◌, ℕ, suc, ◌+◌, ◌*◌, ◌<◌, List, [], ◌∷◌, ◌++◌, length, map, Bool, true, false, ◌&&◌, is_some, slice_get, Some, inl, inr, refl, sym, ap, subst, ◌∙◌, arith, append_assoc}
use Rattle.std.proofs.lemmas.List.{length-map}
use Rattle.std.proofs.lemmas.List.Sums.{sum_by-cons}
use Rattle.std.proofs.lemmas.Option.{slice_get_within}
use Rattle.std.proofs.Math.Nat.{suc-mul}
use Rattle.std.specs.List.{AllByRecursion, sum_by}
use Rattle.lane_queue.proofs.Lists.{of_append, of_more}
use Rattle.lane_queue.specs.Items.{of_lane, has_last}
use Rattle.lane_queue.specs.declared.item.Item.{Item}
use Rattle.lanes_in_turn.proofs.RoundLaws.{all_at}
use Rattle.upload_lanes.proofs.GroupLaws.{ends_in, few_more, gave_more, lane_count, lane_ended, lane_taken, put_first}
use Rattle.upload_lanes.proofs.JoinLaws.{some_at}
use Rattle.upload_lanes.proofs.RecorderLaws.{total, lanes_total}
use Rattle.upload_lanes.proofs.SendingLaws.{own_upload}
use Rattle.upload_lanes.proofs.SpreadLaws.{all_front, last_of, of_spread}
use Rattle.upload_lanes.proofs.Zips.{mapped_at, zip_at}
use Rattle.lanes_in_turn.specs.Lane.{IsTaken}
use Rattle.lanes_in_turn.specs.Round.{have_ended}
use Rattle.lanes_in_turn.specs.Taking.{is_ended, items_in, GaveFewMore, items_taken, refused_by, GaveMore, Stops, TakesLane, IsFreshLane}
use Rattle.upload_lanes.specs.inside.Party.{Fits, TellsUpload, IsJoined, AreJoined, TakesByOne, without_upload}
use Rattle.upload_lanes.specs.inside.Sent.{is_last, spread, IsPut}
use Rattle.upload_lanes.specs.inside.Recording as Recorder
use Rattle.upload_lanes.specs.inside.Recording.{IsHalted, IsRecording, IsUnrecorded}
use Rattle.lanes_in_turn.specs.declared.gathered.LaneResult.{LaneResult}
use Rattle.lanes_in_turn.specs.declared.gathered.Stop.{Stop}
use Rattle.lanes_in_turn.specs.declared.gathered.Stop.TheVariants as stops
use Rattle.upload_lanes.specs.declared.sent.Parcel.{Parcel}
use Rattle.upload_lanes.specs.declared.sent.Sent.{Sent}
use Rattle.upload_lanes.specs.declared.uploader.Uploads.{Uploads}

total_list : {X : Type 0} (f : X → ℕ) (xs : List X) (h : ℕ → ℕ) → ((k : ℕ) (x : X) → slice_get xs k ≡ Some x → h k ≡ f x) → total (length xs) h ≡ sum_by f xs
total_list f [] h same = refl
total_list f (x ∷ xs) h same =
    let first = same 0 x refl in
    let rest = total_list f xs (λ k. h (suc k)) (λ k y at. same (suc k) y at) in
    let all = sum_by-cons f x xs in
    omega (arith, first, rest, all)

-- each uploader keeps to the room, where all have that size
pub fits_at : {R : Type 0} (room places size : ℕ) (promises : List (Uploads R)) → Fits room places size → AllByRecursion (λ promise. promise.size.value ≡ size) promises
    → (k : ℕ) (promise : Uploads R) → slice_get promises k ≡ Some promise → Fits room places promise.size.value
fits_at room places size promises fits sizes k promise at = subst (Fits room places) (sym (all_at (λ one. one.size.value ≡ size) promises k promise sizes at)) fits

module _ {R : Type 0} where
  -- ---- have all ended

  ended_same : (xs ys : List (List ℕ × LaneResult R)) → length ys ≡ length xs
      → ((k : ℕ) (x y : List ℕ × LaneResult R) → slice_get xs k ≡ Some x → slice_get ys k ≡ Some y → y.1.end ≡ x.1.end) → have_ended ys ≡ have_ended xs
  ended_same [] [] size same = refl
  ended_same [] (y ∷ ys) size same = absurd (omega (arith, size))
  ended_same (x ∷ xs) [] size same = absurd (omega (arith, size))
  ended_same (x ∷ xs) (y ∷ ys) size same =
      ap (λ end. is_some end && have_ended ys) (same 0 x y refl refl)
      ∙ ap (λ rest. is_some x.1.end && rest) (ended_same xs ys (omega (arith, size)) (λ k a b at at'. same (suc k) a b at at'))

  ended_each : (xs : List (List ℕ × LaneResult R)) → ((k : ℕ) (x : List ℕ × LaneResult R) → slice_get xs k ≡ Some x → is_some x.1.end ≡ true) → have_ended xs ≡ true
  ended_each [] all = refl
  ended_each (x ∷ xs) all = ap (λ b. b && have_ended xs) (all 0 x refl) ∙ ended_each xs (λ k y at. all (suc k) y at)

  -- ---- a recorder's lanes

  module _ (allows : ℕ → Bool → Type 0) (room places : ℕ) (firsts lanes joined_lanes : List (List ℕ × LaneResult R)) (promises : List (Uploads R)) (got : List (Item Parcel)) (stop : Stop) (items : ℕ)
      (fits : (k : ℕ) (promise : Uploads R) → slice_get promises k ≡ Some promise → Fits room places promise.size.value)
      (recording : IsRecording firsts lanes got stop items) (joined : AreJoined places promises got lanes joined_lanes) where
    abbrev pub behind : List (Item Sent)
    behind = recording.rest ++ recording.left

    split : (k : ℕ) → spread (of_lane k got) ≡ of_lane k recording.done ++ of_lane k behind
    split k = sym (of_spread k got) ∙ ap (of_lane k) recording.got_is ∙ of_append k recording.done behind

    -- the first lane, the recorded one and the joined one at one place
    pub record At (k : ℕ) (lane : List ℕ × LaneResult R) : Type 0 where
      pub first : List ℕ × LaneResult R
      pub first_at : slice_get firsts k ≡ Some first
      pub recorded : List ℕ × LaneResult R
      pub recorded_at : slice_get lanes k ≡ Some recorded
      pub is_joined : IsJoined places promises got k recorded lane

    at : (k : ℕ) (lane : List ℕ × LaneResult R) → slice_get joined_lanes k ≡ Some lane → At k lane
    at k lane lane_at =
        let within = slice_get_within joined_lanes k lane lane_at in
        let (recorded, recorded_at) = some_at lanes k (omega (arith, within, joined.count)) in
        let (first, first_at) = some_at firsts k (omega (arith, within, joined.count, recording.lanes_are.count)) in
        record { first = first; first_at = first_at; recorded = recorded; recorded_at = recorded_at; is_joined = joined.each k recorded lane recorded_at lane_at }

    module _ (k : ℕ) (lane : List ℕ × LaneResult R) (here : At k lane) where
      told : TellsUpload (room + 1 + refused_by stop) here.is_joined.promise.upload.value here.is_joined.upload (of_lane k recording.done)
      told =
          let joined_so = here.is_joined.told in
          let size = here.is_joined.promise.size.value in
          let fit = fits k here.is_joined.promise here.is_joined.promise_at in
          let few = recording.part k size fit.some joined_so.small in
          let step : (places + 2) * size ≡ (places + 1) * size + size = ap (λ n. n * size) (omega arith) ∙ suc-mul (places + 1) size in (
            joined_so.told.0,
            put_first ((places + 1) * size) (room + 1 + refused_by stop) here.is_joined.upload (spread (of_lane k got)) (of_lane k recording.done) (of_lane k behind) (split k)
                (omega (arith, few, step, fit.most)) joined_so.told.1,
          )

      same_end : lane.1.end ≡ here.recorded.1.end
      same_end = ap (λ l. l.1.end) here.is_joined.lane_is

      taken : here.is_joined.promise.upload.value.lane.earlier ≡ here.first.1.log.session → IsTaken here.first.1.log here.is_joined.promise.upload.value lane.1
      taken together =
          let was = recording.lanes_are.each k here.first here.recorded here.first_at here.recorded_at in
          subst (λ l. IsTaken here.first.1.log here.is_joined.promise.upload.value l.1) (sym here.is_joined.lane_is)
          (lane_taken here.first.1 here.recorded.1 here.is_joined.promise.upload.value here.is_joined.upload (of_lane k recording.done) was.1 (room + 1 + refused_by stop) told together)

      ahead : GaveFewMore (room + 1 + refused_by stop) lane.1
      ahead =
          let was = recording.lanes_are.each k here.first here.recorded here.first_at here.recorded_at in
          subst (λ l. GaveFewMore (room + 1 + refused_by stop) l.1) (sym here.is_joined.lane_is)
          (few_more here.first.1 here.recorded.1 here.is_joined.promise.upload.value here.is_joined.upload (of_lane k recording.done) was.1 (room + 1 + refused_by stop) told)

      client : lane.0 ≡ here.first.0
      client = ap (λ l. l.0) here.is_joined.lane_is ∙ (recording.lanes_are.each k here.first here.recorded here.first_at here.recorded_at).0

      count_here : length (of_lane k recording.done) ≡ items_in lane.1
      count_here =
          let was = recording.lanes_are.each k here.first here.recorded here.first_at here.recorded_at in
          lane_count here.first.1 here.recorded.1 here.is_joined.promise.upload.value here.is_joined.upload (of_lane k recording.done) was.1 (room + 1 + refused_by stop) told
          ∙ sym (ap (λ l. l.1.taken + ends_in l.1.end) here.is_joined.lane_is)

      ended_here : has_last (of_lane k recording.done) ≡ true → is_some lane.1.end ≡ true
      ended_here last =
          let was = recording.lanes_are.each k here.first here.recorded here.first_at here.recorded_at in
          ap is_some same_end ∙ lane_ended here.first.1 here.recorded.1 here.is_joined.promise.upload.value here.is_joined.upload (of_lane k recording.done) was.1 (room + 1 + refused_by stop) told last

    -- as many items as were taken
    refused_one : (s : Stop) (rest : List (Item Sent)) → IsUnrecorded s rest → length rest ≡ refused_by s
    refused_one stops.Memory rest (item, is, one) = ap length is
    refused_one stops.None rest is = ap length is
    refused_one stops.Asked rest is = ap length is

    all_items : items ≡ items_taken joined_lanes stop
    all_items =
        let within = all_front (λ item. item.lane < length firsts) recording.done behind (subst (AllByRecursion (λ item. item.lane < length firsts)) recording.got_is recording.within) in
        let sums = lanes_total (length firsts) recording.done within in
        let same : total (length joined_lanes) (λ k. length (of_lane k recording.done)) ≡ sum_by (λ lane. items_in lane.1) joined_lanes =
        total_list (λ lane. items_in lane.1) joined_lanes (λ k. length (of_lane k recording.done)) (λ k lane lane_at. count_here k lane (at k lane lane_at)) in
        let sizes : total (length joined_lanes) (λ k. length (of_lane k recording.done)) ≡ total (length firsts) (λ k. length (of_lane k recording.done)) =
        ap (λ n. total n (λ k. length (of_lane k recording.done))) (joined.count ∙ recording.lanes_are.count) in
        let rest = refused_one stop recording.rest recording.refused in
        let done : sum_by (λ lane. items_in lane.1) joined_lanes ≡ length recording.done = sym same ∙ sizes ∙ sums in
        recording.count ∙ ap (λ n. n + length recording.rest) (sym done) ∙ ap (λ n. sum_by (λ lane. items_in lane.1) joined_lanes + n) rest

    -- the item that could not be recorded is a message of one of these lanes
    unrecorded : (item : Item Sent) → recording.rest ≡ item ∷ [] → is_last item.body ≡ false
        → (k : ℕ) × (lane : List ℕ × LaneResult R) × (slice_get joined_lanes k ≡ Some lane) × GaveMore lane.1
    unrecorded item rest one =
        let k = item.lane in
        let cut : spread got ≡ (recording.done ++ item ∷ []) ++ recording.left =
        recording.got_is ∙ ap (λ r. recording.done ++ (r ++ recording.left)) rest ∙ sym (append_assoc recording.done (item ∷ []) recording.left) in
        let all = all_front (λ each. each.lane < length firsts) (recording.done ++ item ∷ []) recording.left (subst (AllByRecursion (λ each. each.lane < length firsts)) cut recording.within) in
        let within = last_of (λ each. each.lane < length firsts) recording.done item all in
        let (lane, lane_at) = some_at joined_lanes k (omega (arith, within, joined.count, recording.lanes_are.count)) in
        let here = at k lane lane_at in
        let was = recording.lanes_are.each k here.first here.recorded here.first_at here.recorded_at in
        let upload = here.is_joined.upload in
        let given = here.is_joined.told.told in
        let most = (places + 1) * here.is_joined.promise.size.value in
        let mine : spread (of_lane k got) ≡ (of_lane k recording.done ++ item ∷ []) ++ of_lane k recording.left =
        sym (of_spread k got) ∙ ap (of_lane k) cut ∙ of_append k (recording.done ++ item ∷ []) recording.left ∙ ap (λ front. front ++ of_lane k recording.left) (of_more k recording.done item refl) in
        let first : IsPut (length (of_lane k recording.left) + most) (of_lane k recording.done ++ item ∷ []) upload =
        put_first most (length (of_lane k recording.left) + most) upload (spread (of_lane k got)) (of_lane k recording.done ++ item ∷ []) (of_lane k recording.left) mine (omega arith) given.1 in
        let more = gave_more here.first.1 here.recorded.1 here.is_joined.promise.upload.value upload (of_lane k recording.done) was.1 (room + 1 + refused_by stop) (told k lane here) (length (of_lane k recording.left) + most) upload item one
        (given.0, first) in
        (k, lane, lane_at, record { upload = upload; upload_is = ap (λ l. l.1.upload) here.is_joined.lane_is; more = subst (λ l. l.1.taken < length upload.given) (sym here.is_joined.lane_is) more })

    same_ends : have_ended joined_lanes ≡ have_ended lanes
    same_ends = ended_same lanes joined_lanes joined.count (λ k x y x_at y_at. ap (λ l. l.1.end) (joined.each k x y x_at y_at).lane_is)

    all_ended : ((k : ℕ) → k < length lanes → has_last (of_lane k recording.done) ≡ true) → have_ended joined_lanes ≡ true
    all_ended lasts = ended_each joined_lanes (λ k lane lane_at.
        let within = slice_get_within joined_lanes k lane lane_at in
        ended_here k lane (at k lane lane_at) (lasts k (omega (arith, within, joined.count))))

    ended_so : (s : Stop) → stop ≡ s → Recorder.StopsBy lanes recording.done s → have_ended joined_lanes ≡ is_ended s
    ended_so stops.None is (inl ended) = same_ends ∙ ended
    ended_so stops.None is (inr lasts) = all_ended lasts
    ended_so stops.Asked is open_ = same_ends ∙ open_
    ended_so stops.Memory is open_ = same_ends ∙ open_

    stops_so : IsHalted allows stop items → Stops allows joined_lanes stop
    stops_so halted = record {
      lesser = subst (λ n. (m : ℕ) → m < n → allows m false) all_items halted.lesser;
      asked = λ is. subst (λ n. allows n true) all_items (halted.asked is);
      ended = ended_so stop refl recording.stops;
      refused = λ is. let (item, rest, one) = subst (λ s. IsUnrecorded s recording.rest) is recording.refused in unrecorded item rest one;
    }

    module _ (fresh : List (List ℕ × LaneResult R)) (firsts_are : firsts ≡ map without_upload fresh) (all_fresh : AllByRecursion IsFreshLane fresh)
        (given : map (λ promise. Some promise.upload.value) promises ≡ map own_upload fresh) where
      takes_lane : (k : ℕ) (whole lane : List ℕ × LaneResult R) → slice_get fresh k ≡ Some whole → slice_get joined_lanes k ≡ Some lane → TakesLane (room + 1 + refused_by stop) whole lane
      takes_lane k whole lane whole_at lane_at =
          let here = at k lane lane_at in
          let both : Some here.first ≡ Some (without_upload whole) = sym here.first_at ∙ mapped_at without_upload fresh firsts k whole firsts_are whole_at in
          let same : here.first ≡ without_upload whole = cc in
          let promise = here.is_joined.promise in
          let there : Some (Some promise.upload.value) ≡ Some whole.1.upload =
          sym (mapped_at (λ p. Some p.upload.value) promises (map own_upload fresh) k promise (sym given) here.is_joined.promise_at) ∙ mapped_at own_upload fresh (map own_upload fresh) k whole refl whole_at in
          let began = all_at IsFreshLane fresh k whole all_fresh whole_at in
          let whole_is : whole.1.upload ≡ Some promise.upload.value = cc in
          let one : Some began.upload ≡ Some promise.upload.value = sym began.upload_is ∙ whole_is in
          let own : began.upload ≡ promise.upload.value = cc in
          let together = ap (λ upload. upload.lane.earlier) (sym own) ∙ began.behind ∙ ap (λ f. f.1.log.session) (sym same) in
          record {
            client = client k lane here ∙ ap (λ f. f.0) same;
            ahead = ahead k lane here;
            is_taken = λ begun is.
                let of : promise.upload.value ≡ begun = cc in
                subst (λ f. IsTaken f.1.log begun lane.1) same (subst (λ b. IsTaken here.first.1.log b lane.1) of (taken k lane here together));
          }

      pub takes_by_one : IsHalted allows stop items → TakesByOne allows (room + 1) fresh joined_lanes stop
      takes_by_one halted =
          let size : length fresh ≡ length joined_lanes = sym (joined.count ∙ recording.lanes_are.count ∙ ap length firsts_are ∙ length-map fresh without_upload) in
          record { each = zip_at (TakesLane (room + 1 + refused_by stop)) fresh joined_lanes size takes_lane; stops = stops_so halted }

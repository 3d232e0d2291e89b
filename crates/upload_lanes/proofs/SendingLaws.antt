-- What starting the uploaders of lanes keeps.
use Rattle.std.proofs.Common.{◌≡◌, ℕ, zero, suc, ◌+◌, ◌≤◌, List, [], ◌∷◌, ◌++◌, length, map, slice_get, Option, Some, inl, inr, ◌⊎◌, refl, sym, ap, subst, ◌∙◌, arith, append_assoc, append-nil}
use Rattle.std.proofs.lemmas.List.{length-append, map-append}
use Rattle.std.specs.List.{AllByRecursion}
use Rattle.crossbeam_queue.specs.Passes.{Pass, view}
use Rattle.upload_reader.specs.Upload.{UploadState}
use Rattle.lane_queue.specs.Opened.{IsNewPutterOf}
use Rattle.lane_queue.specs.Queue.{Queue}
use Rattle.lane_queue.specs.declared.item.Item.{Item}
use Rattle.lane_queue.specs.declared.view.QueueView.{QueueView}
use Rattle.upload_lanes.proofs.Zips.{all_more, empty}
use Rattle.lanes_in_turn.specs.Taking.{IsFreshLane}
use Rattle.upload_lanes.specs.inside.Party.{AreEnds, AreUploads, AreSending, without_upload}
use Rattle.lanes_in_turn.specs.declared.gathered.LaneResult.{LaneResult}
use Rattle.upload_lanes.specs.declared.sent.Parcel.{Parcel}
use Rattle.upload_lanes.specs.declared.uploader.Uploads.{Uploads}

abbrev pub own_upload : {R : Type 0} → List ℕ × LaneResult R → Option (UploadState R)
own_upload lane = lane.1.upload

-- the same of the ends from that lane on
abbrev pub AreEndsFrom : Queue → ℕ → List (Pass (Item Parcel) (QueueView Parcel)) → Type 0
AreEndsFrom queue n putters =
    (k : ℕ) (putter : Pass (Item Parcel) (QueueView Parcel)) → slice_get putters k ≡ Some putter → IsNewPutterOf queue putter × ((view putter).lane ≡ n + k)

pub ends_all : (queue : Queue) (putters : List (Pass (Item Parcel) (QueueView Parcel))) → AreEnds queue putters → AreEndsFrom queue 0 putters
ends_all queue putters all k putter at = let (fresh, lane) = all k putter at in (fresh, omega (arith, lane))

module _ (queue : Queue) (n : ℕ) (putters rest : List (Pass (Item Parcel) (QueueView Parcel))) (putter : Pass (Item Parcel) (QueueView Parcel)) (first : putters ≡ putter ∷ rest) (all : AreEndsFrom queue n putters) where
  pub ends_first : IsNewPutterOf queue putter × ((view putter).lane ≡ n)
  ends_first =
      let (fresh, lane) = all 0 putter (ap (λ ps. slice_get ps 0) first) in
      (fresh, omega (arith, lane))

  pub ends_rest : AreEndsFrom queue (n + 1) rest
  ends_rest k other at =
      let (fresh, lane) = all (suc k) other (ap (λ ps. slice_get ps (suc k)) first ∙ at) in
      (fresh, omega (arith, lane))

-- what was behind them is the new one
pub last_at : {X : Type 0} (xs : List X) (x y : X) (k : ℕ) → slice_get (xs ++ x ∷ []) k ≡ Some y → (slice_get xs k ≡ Some y) ⊎ ((k ≡ length xs) × (x ≡ y))
last_at [] x y zero at = inr (refl, cc)
last_at [] x y (suc k) at = cc
last_at (z ∷ xs) x y zero at = inl at
last_at (z ∷ xs) x y (suc k) at = elim (last_at xs x y k at) [
  | inl there ↦ inl there
  | inr (last, same) ↦ inr (ap suc last, same)
]

module _ {R : Type 0} where
  uploads_more : (queue : Queue) (promises : List (Uploads R)) (promise : Uploads R) → AreUploads queue promises → promise.queue.value ≡ queue
      → (view {V = QueueView Parcel} promise.putter.value).lane ≡ length promises → AreUploads queue (promises ++ promise ∷ [])
  uploads_more queue promises promise all same lane k one at = elim (last_at promises promise one k at) [
    | inl there ↦ all k one there
    | inr (last, is) ↦ subst (λ p. (p.queue.value ≡ queue) × ((view {V = QueueView Parcel} p.putter.value).lane ≡ k)) is (same, lane ∙ sym last)
  ]

  -- Uploaders were started of the first lanes, and these ends and lanes are left.
  pub record IsSending (queue : Queue) (size : ℕ) (fresh rest lanes : List (List ℕ × LaneResult R)) (promises : List (Uploads R))
      (putters : List (Pass (Item Parcel) (QueueView Parcel))) (room room' : ℕ) : Type 0 where
    pub ends : AreEndsFrom queue (length promises) putters
    pub count : length putters ≡ length rest
    pub fits : length promises + length rest ≤ room
    pub fits' : length lanes + length rest ≤ room'
    pub left : AllByRecursion IsFreshLane rest
    pub uploads : AreUploads queue promises
    pub sizes : AllByRecursion (λ promise. promise.size.value ≡ size) promises
    pub same : map (λ promise. Some promise.upload.value) promises ++ map own_upload rest ≡ map own_upload fresh
    pub lanes_are : lanes ++ map without_upload rest ≡ map without_upload fresh

  pub sends_none : (queue : Queue) (size : ℕ) (fresh : List (List ℕ × LaneResult R)) (putters : List (Pass (Item Parcel) (QueueView Parcel))) (room room' : ℕ) → AreEnds queue putters
      → length putters ≡ length fresh → length fresh ≤ room → length fresh ≤ room' → AllByRecursion IsFreshLane fresh → IsSending queue size fresh fresh [] [] putters room room'
  sends_none queue size fresh putters room room' ends count fits fits' left = record {
    ends = ends_all queue putters ends;
    count = count;
    fits = omega (arith, fits);
    fits' = omega (arith, fits');
    left = left;
    uploads = λ k promise at. cc;
    sizes = tt;
    same = refl;
    lanes_are = refl;
  }

  module _ (queue : Queue) (size : ℕ) (fresh rest rest' lanes : List (List ℕ × LaneResult R)) (promises : List (Uploads R)) (putters putters' : List (Pass (Item Parcel) (QueueView Parcel))) (room room' : ℕ)
      (putter : Pass (Item Parcel) (QueueView Parcel)) (lane : List ℕ × LaneResult R) (putter_is : putters ≡ putter ∷ putters') (lane_is : rest ≡ lane ∷ rest')
      (sending : IsSending queue size fresh rest lanes promises putters room room') where
    pub next_end : IsNewPutterOf queue putter × ((view putter).lane ≡ length promises)
    next_end = ends_first queue (length promises) putters putters' putter putter_is sending.ends

    pub next_fresh : IsFreshLane lane
    next_fresh = (subst (AllByRecursion IsFreshLane) lane_is sending.left).0

    pub sends_one : (promise : Uploads R) → promise.queue.value ≡ queue → promise.putter.value ≡ putter → Some promise.upload.value ≡ lane.1.upload → promise.size.value ≡ size
        → IsSending queue size fresh rest' (lanes ++ without_upload lane ∷ []) (promises ++ promise ∷ []) putters' room room'
    sends_one promise of_queue of_putter of_upload of_size =
        let given : Uploads R → _ = λ p. Some p.upload.value in
        let more : length (promises ++ promise ∷ []) ≡ length promises + 1 = length-append promises (promise ∷ []) in
        let more' : length (lanes ++ without_upload lane ∷ []) ≡ length lanes + 1 = length-append lanes (without_upload lane ∷ []) in
        let one : length putters ≡ length putters' + 1 = ap length putter_is ∙ omega arith in
        let two : length rest ≡ length rest' + 1 = ap length lane_is ∙ omega arith in
        record {
          ends = subst (λ n. AreEndsFrom queue n putters') (sym more) (ends_rest queue (length promises) putters putters' putter putter_is sending.ends);
          count = omega (arith, sending.count, one, two);
          fits = omega (arith, sending.fits, more, two);
          fits' = omega (arith, sending.fits', more', two);
          left = (subst (AllByRecursion IsFreshLane) lane_is sending.left).1;
          sizes = all_more (λ one. one.size.value ≡ size) promises promise sending.sizes of_size;
          uploads = uploads_more queue promises promise sending.uploads of_queue (ap (λ p. (view {V = QueueView Parcel} p).lane) of_putter ∙ next_end.1);
          same =
              ap (λ front. front ++ map own_upload rest') (map-append given promises (promise ∷ []) ∙ ap (λ u. map given promises ++ u ∷ []) of_upload)
              ∙ append_assoc (map given promises) (own_upload lane ∷ []) (map own_upload rest') ∙ ap (λ left. map given promises ++ map own_upload left) (sym lane_is) ∙ sending.same;
          lanes_are =
              append_assoc lanes (without_upload lane ∷ []) (map without_upload rest') ∙ ap (λ left. lanes ++ map without_upload left) (sym lane_is) ∙ sending.lanes_are;
        }

  module _ (queue : Queue) (size : ℕ) (fresh rest lanes : List (List ℕ × LaneResult R)) (promises : List (Uploads R)) (putters : List (Pass (Item Parcel) (QueueView Parcel))) (room room' : ℕ)
      (none : length rest ≡ 0) (sending : IsSending queue size fresh rest lanes promises putters room room') where
    pub lanes_all : lanes ≡ map without_upload fresh
    lanes_all = sym (append-nil lanes) ∙ ap (λ left. lanes ++ map without_upload left) (sym (empty rest none)) ∙ sending.lanes_are

    pub sending_all : AreSending queue size fresh promises
    sending_all = record {
      uploads = sending.uploads;
      sizes = sending.sizes;
      same = sym (append-nil (map (λ promise. Some promise.upload.value) promises))
          ∙ ap (λ left. map (λ promise. Some promise.upload.value) promises ++ map own_upload left) (sym (empty rest none)) ∙ sending.same;
    }

  -- the same, where capacities and lists have other words
  pub same_sending : (queue : Queue) (size : ℕ) (fresh rest : List (List ℕ × LaneResult R)) {lanes lanes' : List (List ℕ × LaneResult R)} {promises promises' : List (Uploads R)}
      {putters putters' : List (Pass (Item Parcel) (QueueView Parcel))} {room other room' other' : ℕ} → lanes ≡ lanes' → promises ≡ promises' → putters ≡ putters' → room ≡ other → room' ≡ other'
      → IsSending queue size fresh rest lanes promises putters room room' → IsSending queue size fresh rest lanes' promises' putters' other other'
  same_sending queue size fresh rest {lanes} {lanes'} {promises} {promises'} {putters} {putters'} {room} {other} {room'} {other'} a b c d e is =
      subst (λ l. IsSending queue size fresh rest l promises' putters' other other') a
      (subst (λ p. IsSending queue size fresh rest lanes p putters' other other') b
      (subst (λ p. IsSending queue size fresh rest lanes promises p other other') c
      (subst (λ r. IsSending queue size fresh rest lanes promises putters r other') d (subst (λ r. IsSending queue size fresh rest lanes promises putters room r) e is))))

-- What joining the uploaders of lanes keeps, from the last lane to the first.
use Rattle.std.proofs.Common.{◌≡◌, ◌≢◌, ℕ, zero, suc, ◌+◌, ◌≤◌, ◌<◌, List, [], ◌∷◌, ◌++◌, length, set, slice_get, Some, inl, inr, refl, sym, ap, subst, ◌∙◌, arith, append_assoc, append-nil}
use Rattle.std.proofs.lemmas.List.{length-append, length-set}
use Rattle.std.proofs.lemmas.Option.{slice_get_within}
use Rattle.lane_queue.specs.Items.{of_lane}
use Rattle.lane_queue.specs.declared.item.Item.{Item}
use Rattle.upload_reader.specs.Upload.{UploadState}
use Rattle.lanes_in_turn.proofs.RoundLaws.{in_set}
use Rattle.upload_lanes.specs.inside.Party.{TellsParcels, IsJoined, AreJoined, with_upload}
use Rattle.lanes_in_turn.specs.declared.gathered.LaneResult.{LaneResult}
use Rattle.upload_lanes.specs.declared.sent.Parcel.{Parcel}
use Rattle.upload_lanes.specs.declared.uploader.Uploads.{Uploads}

pub some_at : {X : Type 0} (xs : List X) (k : ℕ) → k < length xs → (x : X) × (slice_get xs k ≡ Some x)
some_at [] k within = absurd (omega (arith, within))
some_at (x ∷ xs) zero within = (x, refl)
some_at (x ∷ xs) (suc k) within = some_at xs k (omega (arith, within))

pub set_other : {X : Type 0} (xs : List X) (k j : ℕ) (x : X) → j ≢ k → slice_get (set xs k x) j ≡ slice_get xs j
set_other [] k j x other = refl
set_other (y ∷ ys) zero zero x other = absurd (other refl)
set_other (y ∷ ys) zero (suc j) x other = refl
set_other (y ∷ ys) (suc k) zero x other = refl
set_other (y ∷ ys) (suc k) (suc j) x other = set_other ys k j x (λ same. other (ap suc same))

pub seam_at : {X : Type 0} (xs ys : List X) (x : X) → slice_get (xs ++ x ∷ ys) (length xs) ≡ Some x
seam_at [] ys x = refl
seam_at (y ∷ xs) ys x = seam_at xs ys x

module _ {R : Type 0} (room : ℕ) where
  -- The uploaders that are left are the first; the lanes behind them have their uploads.
  pub record IsJoining (promises left : List (Uploads R)) (got : List (Item Parcel)) (old lanes : List (List ℕ × LaneResult R)) : Type 0 where
    pub joined : List (Uploads R)
    pub split : promises ≡ left ++ joined
    pub count : length lanes ≡ length old
    pub few : length left ≤ length lanes
    pub front : (k : ℕ) → k < length left → slice_get lanes k ≡ slice_get old k
    pub back : (k : ℕ) (lane lane' : List ℕ × LaneResult R) → length left ≤ k → slice_get old k ≡ Some lane → slice_get lanes k ≡ Some lane' → IsJoined room promises got k lane lane'

  pub joins_none : (promises : List (Uploads R)) (got : List (Item Parcel)) (old : List (List ℕ × LaneResult R)) → length promises ≡ length old → IsJoining promises promises got old old
  joins_none promises got old count = record {
    joined = [];
    split = sym (append-nil promises);
    count = refl;
    few = omega (arith, count);
    front = λ k within. refl;
    back = λ k lane lane' past at at'. let within = slice_get_within old k lane at in absurd (omega (arith, past, within, count));
  }

  pub joins_all : (promises left : List (Uploads R)) (got : List (Item Parcel)) (old lanes : List (List ℕ × LaneResult R)) → length left ≡ 0 → IsJoining promises left got old lanes → AreJoined room promises got old lanes
  joins_all promises left got old lanes none joining = record { count = joining.count; each = λ k lane lane' at at'. joining.back k lane lane' (omega (arith, none)) at at' }

  module _ (promises left left' : List (Uploads R)) (promise : Uploads R) (got : List (Item Parcel)) (old lanes : List (List ℕ × LaneResult R)) (last : left ≡ left' ++ promise ∷ [])
      (joining : IsJoining promises left got old lanes) where
    abbrev pub n : ℕ
    n = length left'

    size : length left ≡ n + 1
    size = ap length last ∙ length-append left' (promise ∷ [])

    split_at : promises ≡ left' ++ promise ∷ joining.joined
    split_at = joining.split ∙ ap (λ all. all ++ joining.joined) last ∙ append_assoc left' (promise ∷ []) joining.joined

    pub promise_at : slice_get promises n ≡ Some promise
    promise_at = ap (λ all. slice_get all n) split_at ∙ seam_at left' joining.joined promise

    pub last_within : n < length lanes
    last_within = omega (arith, size, joining.few)

    pub joins_one : (upload : UploadState R) (lanes' : List (List ℕ × LaneResult R)) → TellsParcels room promise upload (of_lane n got)
        → ((lane : List ℕ × LaneResult R) → slice_get lanes n ≡ Some lane → lanes' ≡ set lanes n (with_upload lane upload)) → IsJoining promises left' got old lanes'
    joins_one upload lanes' told put =
        let (was, at) = some_at lanes n last_within in
        let is : lanes' ≡ set lanes n (with_upload was upload) = put was at in
        subst (IsJoining promises left' got old) (sym is)
        (record {
          joined = promise ∷ joining.joined;
          split = split_at;
          count = length-set lanes n (with_upload was upload) ∙ joining.count;
          few = let same = length-set lanes n (with_upload was upload) in omega (arith, same, last_within);
          front = λ k within. set_other lanes n k (with_upload was upload) (λ same. absurd (omega (arith, same, within))) ∙ joining.front k (omega (arith, within, size));
          back = λ k lane lane' past old_at there. elim (in_set lanes n k (with_upload was upload) lane' last_within there) [
            | inl (same, new) ↦
                let both : Some was ≡ Some lane = sym at ∙ joining.front n (omega (arith, size)) ∙ ap (slice_get old) (sym same) ∙ old_at in
                let one : was ≡ lane = cc in
                subst (λ j. IsJoined room promises got j lane lane') (sym same)
                (record { promise = promise; promise_at = promise_at; upload = upload; told = told; lane_is = new ∙ ap (λ l. with_upload l upload) one })
            | inr (other, here) ↦ joining.back k lane lane' (omega (arith, past, size, other)) old_at here
          ];
        })

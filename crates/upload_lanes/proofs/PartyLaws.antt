-- A queue's ends, and the party over them.
use Rattle.std.proofs.Common.{◌≡◌, ℕ, zero, suc, ◌+◌, ◌<◌, List, length, map, slice_get, Some, refl, sym, ap, subst, ◌∙◌, arith}
use Rattle.std.proofs.lemmas.List.{length-map}
use Rattle.std.proofs.lemmas.Option.{slice_get_within, get_or_from_slice_get, slice_get-map}
use Rattle.std.specs.List.{AllByRecursion, range_with_len}
use Rattle.std.specs.Option.{option_map}
use Rattle.crossbeam_queue.specs.Passes.{Pass, view}
use Rattle.lane_queue.specs.Limits.{AreLanes}
use Rattle.lane_queue.specs.Opened.{ArePutters, IsOpenedQueue, IsNewPutterOf, fresh_putter, fresh_taker}
use Rattle.lane_queue.specs.Queue.{Queue}
use Rattle.lane_queue.specs.declared.item.Item.{Item}
use Rattle.lane_queue.specs.declared.view.QueueView.{QueueView}
use Rattle.lanes_in_turn.proofs.RoundLaws.{all_at, in_map}
use Rattle.lanes_in_turn.specs.Taking.{IsBegun, IsFreshLane}
use Rattle.upload_lanes.specs.inside.Party.{AreEnds, without_upload}
use Rattle.upload_lanes.specs.inside.Recording.{AreBegun, IsDuty}
use Rattle.lanes_in_turn.specs.declared.gathered.LaneResult.{LaneResult}
use Rattle.upload_lanes.specs.declared.recorder.Duty.{Duty}
use Rattle.upload_lanes.specs.declared.sent.Parcel.{Parcel}

range_at : (first n k : ℕ) → k < n → slice_get (range_with_len first n) k ≡ Some (first + k)
range_at first zero k within = absurd (omega (arith, within))
range_at first (suc n) zero within = ap Some (omega arith)
range_at first (suc n) (suc k) within = range_at (first + 1) n k (omega (arith, within)) ∙ ap Some (omega arith)

range_length : (first n : ℕ) → length (range_with_len first n) ≡ n
range_length first zero = refl
range_length first (suc n) = ap suc (range_length (first + 1) n)

module _ (queue : Queue) (lanes : ℕ) (putters : List (Pass (Item Parcel) (QueueView Parcel))) (are : ArePutters queue lanes putters) where
  pub putters_count : length putters ≡ lanes
  putters_count = sym (length-map putters (λ putter. view putter)) ∙ ap length are.views ∙ length-map (range_with_len 0 lanes) (λ k. fresh_putter {T = Parcel} k) ∙ range_length 0 lanes

  pub ends_are : AreEnds queue putters
  ends_are k putter at =
      let within = slice_get_within putters k putter at in
      let seen : Some (view putter) ≡ option_map (λ n. fresh_putter {T = Parcel} n) (slice_get (range_with_len 0 lanes) k) =
      sym (slice_get-map (λ p. view p) putters k ∙ ap (option_map (λ p. view p)) at) ∙ ap (λ views. slice_get views k) are.views ∙ slice_get-map (λ n. fresh_putter {T = Parcel} n) (range_with_len 0 lanes) k in
      let both : Some (view putter) ≡ Some (fresh_putter {T = Parcel} (0 + k)) = seen ∙ ap (option_map (λ n. fresh_putter {T = Parcel} n)) (range_at 0 lanes k (omega (arith, within, putters_count))) in
      let same : view putter ≡ fresh_putter {T = Parcel} (0 + k) = cc in
      (subst (IsNewPutterOf queue) (get_or_from_slice_get putters k putter putter at) (are.fresh k putter within), ap (λ v. v.lane) same ∙ omega arith)

module _ {R : Type 0} (hand : List (List ℕ × LaneResult R)) (all : AllByRecursion IsFreshLane hand) where
  begun_parted : AreBegun (map without_upload hand)
  begun_parted k lane at =
      let (whole, whole_at, is) = in_map without_upload hand k lane at in
      let fresh = all_at IsFreshLane hand k whole all whole_at in
      subst (λ l. IsBegun l.1) is (record { taken = fresh.begun.taken; end = fresh.begun.end })

  pub duty_is : (queue : Queue) (room : ℕ) (duty : Duty R) (putters : List (Pass (Item Parcel) (QueueView Parcel))) → AreLanes (length hand)
      → IsOpenedQueue (length hand) room queue duty.taker putters → duty.lanes.items ≡ map without_upload hand → IsDuty queue duty
  duty_is queue room duty putters few opened lanes =
      let size : length duty.lanes.items ≡ length hand = ap length lanes ∙ length-map hand without_upload in
      record {
        of = opened.taker_of;
        fresh = opened.taker_is ∙ ap (λ n. fresh_taker {T = Parcel} n) (sym size);
        few = omega (arith, size, few.few);
        begun = subst AreBegun (sym lanes) begun_parted;
      }

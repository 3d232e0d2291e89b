-- The only lane of a round.
use Rattle.std.proofs.Common.{arith, ◌≡◌, ℕ, zero, suc, ◌+◌, List, [], ◌∷◌, length, Bool, slice_get, slice_index_or, Some, refl, sym, ap, subst}
use Rattle.round_robin.specs.Dealt.{every}
use Rattle.lanes_in_turn.specs.Taking.{refused_by, TakesLane, Stops}
use Rattle.upload_lanes.specs.Threads.{stop_of, AreTaken}
use Rattle.lanes_in_turn.specs.declared.gathered.LaneResult.{LaneResult}
use Rattle.lanes_in_turn.specs.declared.gathered.Stop.{Stop}
use Rattle.lanes_in_turn.specs.declared.gathered.Stop.TheVariants as stops

some_only : {A : Type 0} (x y : A) → Some x ≡ Some y → x ≡ y
some_only x y is = cc

only_stop : (stop : Stop) → stop ≡ stop_of (stop ∷ [])
only_stop stops.None = refl
only_stop stops.Asked = refl
only_stop stops.Memory = refl

-- the list of one
pub one_of : {A : Type 0} (xs : List A) (x : A) → length xs ≡ 1 → x ≡ slice_index_or xs 0 x → xs ≡ x ∷ []
one_of [] x one at = absurd (omega (arith, one))
one_of (y ∷ []) x one at = ap (λ z. z ∷ []) (sym at)
one_of (y ∷ z ∷ xs) x one at = absurd (omega (arith, one))

module _ {R : Type 0} where
  pub takes_alone : (allows : ℕ → Bool → Type 0) (first new : List ℕ × LaneResult R) (stop : Stop) → TakesLane (refused_by stop) first new → Stops allows (new ∷ []) stop
      → AreTaken allows 0 (first ∷ []) (new ∷ []) stop
  takes_alone allows first new stop takes so =
      let none : refused_by stop ≡ 0 + refused_by stop = omega arith in
      record { lanes_are = (subst (λ more. TakesLane more first new) none takes, tt); stops = stop ∷ []; count = refl; each = only_recorder; stop_is = only_stop stop }
    where
      only_recorder : (recorder : ℕ) (one : Stop) → slice_get (stop ∷ []) recorder ≡ Some one → Stops allows (every 1 recorder (new ∷ [])) one
      only_recorder zero one at = subst (Stops allows (new ∷ [])) (some_only stop one at) so
      only_recorder (suc n) one at = cc

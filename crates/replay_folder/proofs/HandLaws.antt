-- Lanes that one thread takes one behind another, and the hands of all threads.
use Rattle.std.proofs.Common.{◌≡◌, ℕ, zero, suc, ◌+◌, ◌≤◌, ◌<◌, List, [], ◌∷◌, ◌++◌, length, map, slice_get, slice_set, slice_index_or, Bool, true, false, ◌&&◌, is_some, Some, refl, sym, ap, ap₂, subst, ◌∙◌, arith, append_assoc, append-nil, true≢false}
use Rattle.std.specs.List.{AllByRecursion, AllZip}
use Rattle.std.proofs.lemmas.List.{length-append}
use Rattle.lanes_in_turn.specs.Round.{have_ended}
use Rattle.lanes_in_turn.specs.Taking.{GaveMore, IsFreshLane, Stops, TakesLane, is_ended, never, refused_by}
use Rattle.lanes_in_turn.specs.declared.gathered.LaneResult.{LaneResult}
use Rattle.lanes_in_turn.specs.declared.gathered.Stop.{Stop}
use Rattle.lanes_in_turn.specs.declared.gathered.Stop.TheVariants as stops
use Rattle.upload_lanes.specs.Threads.{both_stops, stop_of, AreTaken}
use Rattle.upload_lanes.specs.inside.Party.{Hand, TakeEach, TakesByOne}
use Rattle.upload_lanes.proofs.Zips.{zip_push}
use Rattle.replay_folder.specs.declared.hands.TakenHand.{TakenHand}

abbrev pub Lanes : Type 0 → Type 0
Lanes R = List (List ℕ × LaneResult R)

-- ---- two stops

refused_left : (a b : Stop) → refused_by a ≤ refused_by (both_stops a b)
refused_left stops.Memory b = omega arith
refused_left stops.None b = omega arith
refused_left stops.Asked stops.Memory = omega arith
refused_left stops.Asked stops.None = omega arith
refused_left stops.Asked stops.Asked = omega arith

refused_right : (a b : Stop) → refused_by b ≤ refused_by (both_stops a b)
refused_right stops.Memory stops.Memory = omega arith
refused_right stops.Memory stops.None = omega arith
refused_right stops.Memory stops.Asked = omega arith
refused_right stops.None b = omega arith
refused_right stops.Asked stops.Memory = omega arith
refused_right stops.Asked stops.None = omega arith
refused_right stops.Asked stops.Asked = omega arith

ended_both : (a b : Stop) → is_ended (both_stops a b) ≡ (is_ended a && is_ended b)
ended_both stops.Memory b = refl
ended_both stops.None b = refl
ended_both stops.Asked stops.Memory = refl
ended_both stops.Asked stops.None = refl
ended_both stops.Asked stops.Asked = refl

pub unasked_both : (a b : Stop) → (a ≡ stops.Asked → ⊥) → (b ≡ stops.Asked → ⊥) → both_stops a b ≡ stops.Asked → ⊥
unasked_both stops.Memory b one other is = cc
unasked_both stops.None b one other is = other is
unasked_both stops.Asked b one other is = one refl

-- ---- lists

set_here : {A : Type 0} (front : List A) (x y : A) (rest : List A) → slice_set (front ++ x ∷ rest) (length front) y ≡ front ++ y ∷ rest
set_here [] x y rest = refl
set_here (z ∷ front) x y rest = ap (λ l. z ∷ l) (set_here front x y rest)

at_here : {A : Type 0} (front : List A) (x d : A) (rest : List A) → slice_index_or (front ++ x ∷ rest) (length front) d ≡ x
at_here [] x d rest = refl
at_here (z ∷ front) x d rest = at_here front x d rest

get_here : {A : Type 0} (front : List A) (x : A) → slice_get (front ++ x ∷ []) (length front) ≡ Some x
get_here [] x = refl
get_here (z ∷ front) x = get_here front x

get_front : {A : Type 0} (front more : List A) (k : ℕ) (x : A) → slice_get front k ≡ Some x → slice_get (front ++ more) k ≡ Some x
get_front [] more k x at = cc
get_front (y ∷ front) more zero x at = at
get_front (y ∷ front) more (suc k) x at = get_front front more k x at

get_behind : {A : Type 0} (front more : List A) (k n : ℕ) (x : A) → n ≡ length front + k → slice_get more k ≡ Some x → slice_get (front ++ more) n ≡ Some x
get_behind [] more k n x is at = let same : k ≡ n = omega (arith, is) in subst (λ j. slice_get more j ≡ Some x) same at
get_behind (y ∷ front) more k zero x is at = absurd (omega (arith, is))
get_behind (y ∷ front) more k (suc n) x is at = get_behind front more k n x (omega (arith, is)) at

all_behind : {A : Type 0} (P : A → Type 0) (front : List A) (x : A) (rest : List A) → AllByRecursion P (front ++ x ∷ rest) → P x
all_behind P [] x rest all = all.0
all_behind P (y ∷ front) x rest all = all_behind P front x rest all.1

zip_weaker : {X Y : Type 0} (P Q : X → Y → Type 0) → ((x : X) (y : Y) → P x y → Q x y) → (xs : List X) (ys : List Y) → AllZip P xs ys → AllZip Q xs ys
zip_weaker P Q goes [] [] all = tt
zip_weaker P Q goes [] (y ∷ ys) all = all
zip_weaker P Q goes (x ∷ xs) [] all = all
zip_weaker P Q goes (x ∷ xs) (y ∷ ys) all = (goes x y all.0, zip_weaker P Q goes xs ys all.1)

zip_join : {X Y : Type 0} (P : X → Y → Type 0) (xs : List X) (ys : List Y) → AllZip P xs ys → (us : List X) (vs : List Y) → AllZip P us vs → AllZip P (xs ++ us) (ys ++ vs)
zip_join P [] [] all us vs more = more
zip_join P [] (y ∷ ys) all us vs more = absurd all
zip_join P (x ∷ xs) [] all us vs more = absurd all
zip_join P (x ∷ xs) (y ∷ ys) all us vs more = (all.0, zip_join P xs ys all.1 us vs more)

-- ---- one lane behind another

module _ {R : Type 0} where
  takes_more : (less more : ℕ) → less ≤ more → (first lane : List ℕ × LaneResult R) → TakesLane less first lane → TakesLane more first lane
  takes_more less more fewer first lane takes = record { client = takes.client; ahead = λ now is. let few = takes.ahead now is in omega (arith, few, fewer); is_taken = takes.is_taken }

  ended_more : (lanes : Lanes R) (lane : List ℕ × LaneResult R) → have_ended (lanes ++ lane ∷ []) ≡ (have_ended lanes && have_ended (lane ∷ []))
  ended_more [] lane = refl
  ended_more (one ∷ lanes) lane = by (is_some one.1.end) _ _ _ (ended_more lanes lane)
    where
      by : (b c d e : Bool) → c ≡ (d && e) → (b && c) ≡ ((b && d) && e)
      by true c d e is = is
      by false c d e is = refl

  abbrev pub HasRefused : Lanes R → Type 0
  HasRefused lanes = (k : ℕ) × (lane : List ℕ × LaneResult R) × (slice_get lanes k ≡ Some lane) × GaveMore lane.1

  -- the first of these lanes were taken, and it stopped so
  pub record IsTakingHand (fresh lanes : Lanes R) (count : ℕ) (stop : Stop) : Type 0 where
    pub front : Lanes R
    pub rest : Lanes R
    pub done : Lanes R
    pub fresh_are : fresh ≡ front ++ rest
    pub lanes_are : lanes ≡ done ++ rest
    pub count_is : length done ≡ count
    pub each : AllZip (TakesLane (refused_by stop)) front done
    pub ended : have_ended done ≡ is_ended stop
    pub refused : stop ≡ stops.Memory → HasRefused done
    pub unasked : stop ≡ stops.Asked → ⊥

  pub takes_none : (fresh : Lanes R) → IsTakingHand fresh fresh 0 stops.None
  takes_none fresh = record { front = []; rest = fresh; done = []; fresh_are = refl; lanes_are = refl; count_is = refl; each = tt; ended = refl; refused = λ is. cc; unasked = λ is. cc }

  -- the next one
  module _ (fresh lanes : Lanes R) (count : ℕ) (stop : Stop) (taking : IsTakingHand fresh lanes count stop) (more : count < length lanes) where
    pub record Next : Type 0 where
      pub lane : List ℕ × LaneResult R
      pub left : Lanes R
      pub is : taking.rest ≡ lane ∷ left

    pub next : Next
    next = by taking.rest refl
      where
        by : (rest : Lanes R) → taking.rest ≡ rest → Next
        by [] is =
            let whole : length lanes ≡ length taking.done = ap length (taking.lanes_are ∙ ap (λ l. taking.done ++ l) is ∙ append-nil taking.done) in
            absurd (omega (arith, whole, taking.count_is, more))
        by (lane ∷ left) is = record { lane = lane; left = left; is = is }

    lanes_here : lanes ≡ taking.done ++ next.lane ∷ next.left
    lanes_here = taking.lanes_are ∙ ap (λ l. taking.done ++ l) next.is

    pub is_next : (old : List ℕ × LaneResult R) → old ≡ slice_index_or lanes count old → old ≡ next.lane
    is_next old at =
        at ∙ ap₂ (λ (l : Lanes R) (k : ℕ). slice_index_or l k old) lanes_here (sym taking.count_is) ∙ at_here taking.done next.lane old next.left

    pub next_fresh : (old : List ℕ × LaneResult R) → old ≡ slice_index_or lanes count old → AllByRecursion IsFreshLane fresh → IsFreshLane old
    next_fresh old at all =
        subst IsFreshLane (sym (is_next old at))
        (all_behind IsFreshLane taking.front next.lane next.left (subst (AllByRecursion IsFreshLane) (taking.fresh_are ∙ ap (λ l. taking.front ++ l) next.is) all))

    module _ (allows : ℕ → Bool → Type 0) (false_only : (n : ℕ) (answer : Bool) → allows n answer → answer ≡ false) (old new : List ℕ × LaneResult R) (one : Stop)
        (at : old ≡ slice_index_or lanes count old) (takes : TakesLane (refused_by one) old new) (so : Stops allows (new ∷ []) one) where
      unasked_here : one ≡ stops.Asked → ⊥
      unasked_here is = true≢false (false_only _ true (so.asked is))

      refused_here : one ≡ stops.Memory → HasRefused (taking.done ++ new ∷ [])
      refused_here is = by (so.refused is)
        where
          by : HasRefused (new ∷ []) → HasRefused (taking.done ++ new ∷ [])
          by (zero, lane, lane_at, gave) =
              let same : new ≡ lane = cc in (length taking.done, new, get_here taking.done new, subst (λ l. GaveMore l.1) (sym same) gave)
          by (suc k, lane, lane_at, gave) = cc

      refused_both : (a b : Stop) → (a ≡ stops.Asked → ⊥) → (a ≡ stops.Memory → HasRefused (taking.done ++ new ∷ [])) → (b ≡ stops.Memory → HasRefused (taking.done ++ new ∷ []))
          → both_stops a b ≡ stops.Memory → HasRefused (taking.done ++ new ∷ [])
      refused_both stops.Memory b unasked left right is = left refl
      refused_both stops.None b unasked left right is = right is
      refused_both stops.Asked b unasked left right is = absurd (unasked refl)

      pub takes_next : IsTakingHand fresh (slice_set lanes count new) (count + 1) (both_stops stop one)
      takes_next =
          let all = both_stops stop one in record {
            front = taking.front ++ next.lane ∷ [];
            rest = next.left;
            done = taking.done ++ new ∷ [];
            fresh_are = taking.fresh_are ∙ ap (λ l. taking.front ++ l) next.is ∙ sym (append_assoc taking.front (next.lane ∷ []) next.left);
            lanes_are =
                ap₂ (λ (l : Lanes R) (k : ℕ). slice_set l k new) lanes_here (sym taking.count_is) ∙ set_here taking.done next.lane new next.left
                ∙ sym (append_assoc taking.done (new ∷ []) next.left);
            count_is = length-append taking.done (new ∷ []) ∙ ap (λ n. n + 1) taking.count_is;
            each = zip_push (TakesLane (refused_by all)) taking.front taking.done next.lane new
                (zip_weaker (TakesLane (refused_by stop)) (TakesLane (refused_by all)) (takes_more (refused_by stop) (refused_by all) (refused_left stop one)) taking.front taking.done taking.each)
                (subst (λ first. TakesLane (refused_by all) first new) (is_next old at) (takes_more (refused_by one) (refused_by all) (refused_right stop one) old new takes));
            ended = ended_more taking.done new ∙ ap₂ (λ (a b : Bool). a && b) taking.ended so.ended ∙ sym (ended_both stop one);
            refused = refused_both stop one taking.unasked
                (λ is. let (k, lane, lane_at, gave) = taking.refused is in (k, lane, get_front taking.done (new ∷ []) k lane lane_at, gave)) refused_here;
            unasked = unasked_both stop one taking.unasked unasked_here;
          }

  pub all_next : (fresh lanes : Lanes R) (count : ℕ) (stop : Stop) → length lanes ≤ count → IsTakingHand fresh lanes count stop → TakesByOne never 0 fresh lanes stop
  all_next fresh lanes count stop all taking = by taking.rest refl
    where
      takes_so : taking.front ≡ fresh → taking.done ≡ lanes → TakesByOne never 0 fresh lanes stop
      takes_so first last =
          let none : refused_by stop ≡ 0 + refused_by stop = omega arith in record {
            each = subst (λ more. AllZip (TakesLane more) fresh lanes) none
                (subst (λ l. AllZip (TakesLane (refused_by stop)) fresh l) last (subst (λ l. AllZip (TakesLane (refused_by stop)) l taking.done) first taking.each));
            stops = record {
              lesser = λ n less. refl;
              asked = λ is. absurd (taking.unasked is);
              ended = ap have_ended (sym last) ∙ taking.ended;
              refused = λ is. subst HasRefused last (taking.refused is);
            };
          }

      by : (rest : Lanes R) → taking.rest ≡ rest → TakesByOne never 0 fresh lanes stop
      by [] is =
          takes_so (sym (append-nil taking.front) ∙ ap (λ l. taking.front ++ l) (sym is) ∙ sym taking.fresh_are)
          (sym (append-nil taking.done) ∙ ap (λ l. taking.done ++ l) (sym is) ∙ sym taking.lanes_are)
      by (lane ∷ left) is =
          let size : length lanes ≡ length taking.done + length (lane ∷ left) = ap length (taking.lanes_are ∙ ap (λ l. taking.done ++ l) is) ∙ length-append taking.done (lane ∷ left) in
          absurd (omega (arith, size, taking.count_is, all))

-- ---- a hand by two threads

module _ {R : Type 0} where
  ended_join : (lanes more : Lanes R) → have_ended (lanes ++ more) ≡ (have_ended lanes && have_ended more)
  ended_join [] more = refl
  ended_join (one ∷ lanes) more = by (is_some one.1.end) _ _ _ (ended_join lanes more)
    where
      by : (b c d e : Bool) → c ≡ (d && e) → (b && c) ≡ ((b && d) && e)
      by true c d e is = is
      by false c d e is = refl

  refused_join : (la lb : Lanes R) (a b : Stop) → (a ≡ stops.Asked → ⊥) → (a ≡ stops.Memory → HasRefused la) → (b ≡ stops.Memory → HasRefused lb) → both_stops a b ≡ stops.Memory → HasRefused (la ++ lb)
  refused_join la lb stops.Memory b unasked left right is = let (k, lane, at, gave) = left refl in (k, lane, get_front la lb k lane at, gave)
  refused_join la lb stops.None b unasked left right is = let (k, lane, at, gave) = right is in (length la + k, lane, get_behind la lb k (length la + k) lane refl at, gave)
  refused_join la lb stops.Asked b unasked left right is = absurd (unasked refl)

  pub both_taken : (fa la fb lb : Lanes R) (a b : Stop) → TakesByOne never 0 fa la a → TakesByOne never 0 fb lb b → TakesByOne never 0 (fa ++ fb) (la ++ lb) (both_stops a b)
  both_taken fa la fb lb a b one other =
      let all = both_stops a b in
      let left = refused_left a b in
      let right = refused_right a b in record {
        each = zip_join (TakesLane (0 + refused_by all)) fa la
            (zip_weaker (TakesLane (0 + refused_by a)) (TakesLane (0 + refused_by all)) (takes_more (0 + refused_by a) (0 + refused_by all) (omega (arith, left))) fa la one.each) fb lb
            (zip_weaker (TakesLane (0 + refused_by b)) (TakesLane (0 + refused_by all)) (takes_more (0 + refused_by b) (0 + refused_by all) (omega (arith, right))) fb lb other.each);
        stops = record {
          lesser = λ n less. refl;
          asked = λ is. absurd (unasked_both a b (λ here. true≢false (one.stops.asked here)) (λ here. true≢false (other.stops.asked here)) is);
          ended = ended_join la lb ∙ ap₂ (λ (x y : Bool). x && y) one.stops.ended other.stops.ended ∙ sym (ended_both a b);
          refused = refused_join la lb a b (λ here. true≢false (one.stops.asked here)) one.stops.refused other.stops.refused;
        };
      }

-- ---- the hands of all threads

module _ {R : Type 0} where
  abbrev pub made_of : List (TakenHand R) → List (Hand R × Stop)
  made_of taken = map (λ one. (one.lanes, one.stop)) taken

  lanes_made : (taken : List (TakenHand R)) → map (λ one. one.lanes) taken ≡ map (λ one. one.0) (made_of taken)
  lanes_made [] = refl
  lanes_made (one ∷ taken) = ap (λ hands. one.lanes ∷ hands) (lanes_made taken)

  stops_made : (taken : List (TakenHand R)) → map (λ one. one.stop) taken ≡ map (λ one. one.1) (made_of taken)
  stops_made [] = refl
  stops_made (one ∷ taken) = ap (λ stops. one.stop ∷ stops) (stops_made taken)

  abbrev pub IsTakenHand : Hand R → TakenHand R → Type 0
  IsTakenHand hand taken = TakesByOne never 0 hand.items taken.lanes.items taken.stop

  -- with whatever is taken of the rest, all of them have been taken
  abbrev pub TakesRest : List (Hand R) → List (TakenHand R) → List (Hand R) → Type 0
  TakesRest all taken rest = (more : List (TakenHand R)) → AllZip IsTakenHand rest more → AllZip IsTakenHand all (taken ++ more)

  pub rest_taken : (all : List (Hand R)) (taken : List (TakenHand R)) (hand : Hand R) (rest old : List (Hand R)) (one : TakenHand R) → old ≡ hand ∷ rest → IsTakenHand hand one
      → TakesRest all taken old → TakesRest all (taken ++ one ∷ []) rest
  rest_taken all taken hand rest old one is here goes more zip =
      subst (λ l. AllZip IsTakenHand all l) (sym (append_assoc taken (one ∷ []) more)) (goes (one ∷ more) (subst (λ l. AllZip IsTakenHand l (one ∷ more)) (sym is) (here, zip)))

  pub all_hands_taken : (all : List (Hand R)) (taken : List (TakenHand R)) (rest : List (Hand R)) → rest ≡ [] → TakesRest all taken rest → AllZip IsTakenHand all taken
  all_hands_taken all taken rest none goes =
      subst (λ l. AllZip IsTakenHand all l) (append-nil taken) (goes [] (subst (λ l. AllZip IsTakenHand l []) (sym none) tt))

  zip_made : (hands : List (Hand R)) (taken : List (TakenHand R)) → AllZip IsTakenHand hands taken
      → AllZip (λ (hand : Hand R) (one : Hand R × Stop). TakesByOne never 0 hand.items one.0.items one.1) hands (made_of taken)
  zip_made [] [] all = tt
  zip_made [] (one ∷ taken) all = absurd all
  zip_made (hand ∷ hands) [] all = absurd all
  zip_made (hand ∷ hands) (one ∷ taken) all = (all.0, zip_made hands taken all.1)

  pub hands_taken : (hands : List (Hand R)) (taken : List (TakenHand R)) → AllZip IsTakenHand hands taken
      → (back : List (Hand R)) (stop : Stop) → back ≡ map (λ one. one.lanes) taken → stop ≡ stop_of (map (λ one. one.stop) taken)
      → TakeEach (λ hand. TakesByOne never 0 hand.items) hands back stop
  hands_taken hands taken each back stop back_is stop_is = record {
    made = made_of taken;
    each = zip_made hands taken each;
    taken_is = back_is ∙ lanes_made taken;
    stop_is = stop_is ∙ ap stop_of (stops_made taken);
  }

  -- that none was given beyond those that were taken is more than that few were
  pub taken_ahead : (more : ℕ) (fresh lanes : Lanes R) (stop : Stop) → AreTaken never 0 fresh lanes stop → AreTaken never more fresh lanes stop
  taken_ahead more fresh lanes stop taken = record {
    lanes_are = zip_weaker (TakesLane (0 + refused_by stop)) (TakesLane (more + refused_by stop)) (takes_more (0 + refused_by stop) (more + refused_by stop) (omega arith)) fresh lanes taken.lanes_are;
    stops = taken.stops;
    count = taken.count;
    each = taken.each;
    stop_is = taken.stop_is;
  }

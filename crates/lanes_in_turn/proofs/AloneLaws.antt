-- A lane alone, from item to item.
use Rattle.std.proofs.Common.{◌≡◌, ℕ, ◌+◌, ◌≤◌, ◌<◌, List, [], ◌∷◌, length, Bool, true, false, ◌&&◌, if◌then◌else◌, is_some, Option, Some, None, refl, sym, ap, subst, ◌∙◌, arith}
use Rattle.std.proofs.lemmas.List.Sums.{sum_by-cons}
use Rattle.upload_reader.specs.Limits.{max_messages}
use Rattle.upload_reader.specs.Upload.{UploadState, IsUntouched}
use Rattle.upload_reader.specs.declared.ending.Ending.{Ending}
use Rattle.lanes_in_turn.proofs.Counts.{one_lesser}
use Rattle.lanes_in_turn.proofs.RoundLaws.{lane_begun}
use Rattle.lanes_in_turn.specs.Lane.{IsTaken}
use Rattle.lanes_in_turn.specs.Round.{IsTakenInTurn}
use Rattle.lanes_in_turn.specs.Taking.{items_in, items_taken, refused_by, Stops, IsFreshLane, TakesLane}
use Rattle.lanes_in_turn.specs.inside.{HasFewTaken}
use Rattle.lanes_in_turn.specs.declared.gathered.LaneResult.{LaneResult}
use Rattle.lanes_in_turn.specs.declared.gathered.Stop.{Stop}
use Rattle.lanes_in_turn.specs.declared.gathered.Stop.TheVariants as stops

pub some_only : {A : Type 0} (x y : A) → Some x ≡ Some y → x ≡ y
some_only x y is = cc

module _ {R : Type 0} where
  -- what a lane is after so many items, none of which was refused
  pub record IsOnItsWay (allows : ℕ → Bool → Type 0) (first lane : List ℕ × LaneResult R) (items : ℕ) : Type 0 where
    pub begun : UploadState R
    pub begun_is : first.1.upload ≡ Some begun
    pub client : lane.0 ≡ first.0
    pub in_turn : IsTakenInTurn first.1.log begun items 0 lane.1
    pub count : items ≡ items_in lane.1
    pub lesser : (n : ℕ) → n < items → allows n false

  fresh_turn : (lane : LaneResult R) (begun : UploadState R) → lane.upload ≡ Some begun → lane.taken ≡ 0 → lane.end ≡ None → IsUntouched begun → IsTakenInTurn lane.log begun 0 0 lane
  fresh_turn lane begun upload taken end untouched =
      let turn = lane_begun lane.log begun untouched.given in
      let with_taken = subst (λ n. IsTakenInTurn lane.log begun 0 0 (record { log = lane.log; taken = n; end = None; upload = Some begun })) (sym taken) turn in
      let with_end = subst (λ e. IsTakenInTurn lane.log begun 0 0 (record { log = lane.log; taken = lane.taken; end = e; upload = Some begun })) (sym end) with_taken in
      subst (λ u. IsTakenInTurn lane.log begun 0 0 (record { log = lane.log; taken = lane.taken; end = lane.end; upload = u })) (sym upload) with_end

  pub sets_out : (allows : ℕ → Bool → Type 0) (lane : List ℕ × LaneResult R) → IsFreshLane lane → IsOnItsWay allows lane lane 0
  sets_out allows lane fresh = record {
    begun = fresh.upload;
    begun_is = fresh.upload_is;
    client = refl;
    in_turn = fresh_turn lane.1 fresh.upload fresh.upload_is fresh.begun.taken fresh.begun.end fresh.untouched;
    count = sym (ap (λ end. lane.1.taken + (if is_some end then 1 else 0)) fresh.begun.end ∙ omega (arith, fresh.begun.taken));
    lesser = λ n less. absurd (omega (arith, less));
  }

  module _ (allows : ℕ → Bool → Type 0) (first lane : List ℕ × LaneResult R) (items : ℕ) (way : IsOnItsWay allows first lane items) where
    one_at_most : (end : Option Ending) → (if is_some end then 1 else 0) ≤ 1
    one_at_most None = omega arith
    one_at_most (Some end) = omega arith

    pub few_items : items ≤ max_messages + 1
    few_items =
        let taken = way.in_turn.is_taken in
        let one = one_at_most lane.1.end in
        omega (arith, way.count, one, taken.some, taken.few)

    pub has_upload : is_some lane.1.upload ≡ true
    has_upload = ap is_some way.in_turn.is_taken.upload_is

    pub few : HasFewTaken lane.1
    few now is =
        let same = some_only way.in_turn.is_taken.now now (sym way.in_turn.is_taken.upload_is ∙ is) in
        subst (λ upload. lane.1.taken ≤ length upload.given) same way.in_turn.is_taken.some

    -- where so many messages were given that aren't recorded
    pub takes_so : (new : LaneResult R) (ahead : ℕ) → IsTakenInTurn first.1.log way.begun items ahead new → TakesLane ahead first (lane.0, new)
    takes_so new ahead turn = let taken = turn.is_taken in record {
      client = way.client;
      ahead = λ now is. subst (λ upload. length upload.given ≤ new.taken + ahead) (some_only taken.now now (sym taken.upload_is ∙ is)) (omega (arith, turn.ahead_is));
      is_taken = λ begun is. subst (λ upload. IsTaken first.1.log upload new) (some_only way.begun begun (sym way.begun_is ∙ is)) taken;
    }

    size : (stop : Stop) → items_taken (lane ∷ []) stop ≡ items + refused_by stop
    size stop = let all = sum_by-cons (λ l. items_in l.1) lane [] in omega (arith, all, way.count)

    -- where it stops behind items that were all recorded
    pub stops_none : is_some lane.1.end ≡ true → Stops allows (lane ∷ []) stops.None
    stops_none ended = record {
      lesser = λ n less. way.lesser n (omega (arith, less, size stops.None));
      asked = λ is. cc;
      ended = ap (λ b. b && true) ended;
      refused = λ is. cc;
    }

    pub stops_asked : is_some lane.1.end ≡ false → allows items true → Stops allows (lane ∷ []) stops.Asked
    stops_asked going answer = record {
      lesser = λ n less. way.lesser n (omega (arith, less, size stops.Asked));
      asked = λ is. subst (λ n. allows n true) (omega (arith, size stops.Asked)) answer;
      ended = ap (λ b. b && true) going;
      refused = λ is. cc;
    }

    -- a message more, or the lane's end
    pub goes_on : (new : LaneResult R) → IsTakenInTurn first.1.log way.begun (items + 1) 0 new → items_in new ≡ items_in lane.1 + 1 → allows items false → IsOnItsWay allows first (lane.0, new) (items + 1)
    goes_on new turn count answer = record {
      begun = way.begun;
      begun_is = way.begun_is;
      client = way.client;
      in_turn = turn;
      count = omega (arith, count, way.count);
      lesser = one_lesser (λ n. allows n false) items way.lesser answer;
    }

    -- where it stops at a message that was refused
    pub stops_refused : (new : LaneResult R) → IsTakenInTurn first.1.log way.begun items 1 new → new.taken ≡ lane.1.taken → new.end ≡ lane.1.end → is_some lane.1.end ≡ false → allows items false
        → Stops allows ((lane.0, new) ∷ []) stops.Memory
    stops_refused new turn taken end going answer =
        let same : items_in new ≡ items_in lane.1 = ap (λ e. new.taken + (if is_some e then 1 else 0)) end ∙ ap (λ n. n + (if is_some lane.1.end then 1 else 0)) taken in
        record {
          lesser = λ n less. one_lesser (λ m. allows m false) items way.lesser answer n (omega (arith, less, same, way.count, sum_by-cons (λ (l : List ℕ × LaneResult R). items_in l.1) (lane.0, new) []));
          asked = λ is. cc;
          ended = ap (λ b. b && true) (ap is_some end ∙ going);
          refused = λ is. (0, (lane.0, new), refl, record { upload = turn.is_taken.now; upload_is = turn.is_taken.upload_is; more = omega (arith, turn.ahead_is) });
        }

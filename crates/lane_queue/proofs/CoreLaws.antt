-- The machine: what its steps keep.
use Rattle.std.proofs.Common.{◌≡◌, ℕ, ◌+◌, ◌<◌, ◌≤◌, ◌==◌, Bool, true, false, ◌&&◌, not, nat_lt, true≢false, List, [], ◌∷◌, ◌++◌, length, set, replicate, take, drop, refl, sym, ◌∙◌, ap, subst, arith, append-nil, length-append}
use Rattle.std.proofs.lemmas.Bool.{and_parts, ltb-true, not-true}
use Rattle.std.proofs.lemmas.List.{length-set, length-replicate, get_or-replicate, take-append-drop}
use Rattle.std.proofs.lemmas.List.Sums.{length-filter, count_by-le-length}
use Rattle.lane_queue.specs.declared.item.Item.{Item}
use Rattle.lane_queue.specs.Items.{of_lane, has_last, AreNumbered}
use Rattle.lane_queue.specs.Core.{Machine, may_put, IsFifo, HasWhole}
use Rattle.lane_queue.specs.inside.Core.{machine_of, IsMachine}
use Rattle.lane_queue.proofs.Lists.{of_append, lane_more, entry_more}
use Rattle.lane_queue.proofs.Counts.{last_more}
use Rattle.lane_queue.proofs.Steps.{none_put, one_put}

-- what was taken of a lane, and then what waits of it, is what was put
cut_lane : (items : List (Item ℕ)) (taken lane : ℕ) → of_lane lane (take taken items) ++ of_lane lane (drop taken items) ≡ of_lane lane items
cut_lane items taken lane = sym (of_append lane (take taken items) (drop taken items)) ∙ ap (of_lane lane) (take-append-drop taken items)

pub fifo : (room taken : ℕ) (items : List (Item ℕ)) (counts : List ℕ) → IsFifo (machine_of room items taken counts)
fifo room taken items counts lane = cut_lane items taken lane

pub has_whole : (room taken : ℕ) (items : List (Item ℕ)) (counts : List ℕ) (over : List Bool) → IsMachine items taken counts over → HasWhole (machine_of room items taken counts)
has_whole room taken items counts over is lane last = by (of_lane lane (drop taken items)) refl
  where
    by : (row : List (Item ℕ)) → of_lane lane (drop taken items) ≡ row → of_lane lane (take taken items) ≡ of_lane lane items
    by [] none = sym (append-nil (of_lane lane (take taken items))) ∙ ap (λ l. of_lane lane (take taken items) ++ l) (sym none) ∙ cut_lane items taken lane
    by (x ∷ rest) some =
        let cut : of_lane lane items ≡ of_lane lane (take taken items) ++ x ∷ rest = sym (cut_lane items taken lane) ∙ ap (λ l. of_lane lane (take taken items) ++ l) some in
        absurd (true≢false (sym last ∙ (is.lanes lane (of_lane lane (take taken items)) rest x cut).1))

pub opened : (n : ℕ) → IsMachine [] 0 (replicate n 0) (replicate n false)
opened n = record {
  some = omega arith;
  lanes = λ lane. none_put;
  long = length-replicate {A = Bool} n false ∙ sym (length-replicate {A = ℕ} n 0);
  counted = λ lane less. get_or-replicate {A = ℕ} n lane 0 0 (omega (arith, less, length-replicate {A = ℕ} n 0));
  ended = λ lane less. get_or-replicate {A = Bool} n lane false false (omega (arith, less, length-replicate {A = ℕ} n 0));
}

-- an item more in a lane that isn't over
pub put_one : (items : List (Item ℕ)) (taken : ℕ) (counts : List ℕ) (over : List Bool) (x : Item ℕ) → IsMachine items taken counts over → x.lane < length counts
    → x.number ≡ length (of_lane x.lane items) → has_last (of_lane x.lane items) ≡ false
    → IsMachine (items ++ x ∷ []) taken (set counts x.lane (x.number + 1)) (set over x.lane x.last)
put_one items taken counts over x is there number open_ = record {
  some = omega (arith, is.some, length-append items (x ∷ []));
  lanes = λ lane. lane_more AreNumbered items x lane
      (λ same. subst (λ k. AreNumbered (of_lane k items ++ x ∷ [])) same (one_put (of_lane x.lane items) x (is.lanes x.lane) number open_)) (λ _. is.lanes lane);
  long = length-set over x.lane x.last ∙ is.long ∙ sym (length-set counts x.lane (x.number + 1));
  counted = λ lane less. entry_more length items x counts (x.number + 1) 0 lane there (omega (arith, number, length-append (of_lane x.lane items) (x ∷ [])))
      (is.counted lane (omega (arith, less, length-set counts x.lane (x.number + 1))));
  ended = λ lane less. entry_more has_last items x over x.last false lane (omega (arith, there, is.long)) (sym (last_more (of_lane x.lane items) x open_))
      (is.ended lane (omega (arith, less, length-set counts x.lane (x.number + 1))));
}

-- where a lane gets an item, it exists and hasn't ended
pub may_tells : (m : Machine) (lane : ℕ) → may_put m lane ≡ true → (lane < m.lanes) × (has_last (of_lane lane m.put) ≡ false)
may_tells m lane may =
    let open_ : Bool = not (has_last (of_lane lane m.put)) in
    let both = and_parts (nat_lt lane m.lanes) open_ (and_parts (nat_lt lane m.lanes && open_) (nat_lt (length m.row) m.room) may).0 in
    (ltb-true lane m.lanes both.0, not-true (has_last (of_lane lane m.put)) both.1)

pub count_few : (lane : ℕ) (items : List (Item ℕ)) → length (of_lane lane items) ≤ length items
count_few lane items = omega (arith, length-filter (λ x. x.lane == lane) items, count_by-le-length (λ x. x.lane == lane) items)

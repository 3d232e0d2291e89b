-- What goes through the queue at once, item by item.
use Rattle.std.proofs.Common.{◌≡◌, ◌≢◌, ℕ, zero, suc, ◌+◌, ◌*◌, ◌≤◌, ◌<◌, List, [], ◌∷◌, ◌++◌, length, Bool, true, false, ◌||◌, inl, inr, refl, sym, ap, ◌∙◌, arith, append_assoc, append-nil}
use Rattle.std.proofs.lemmas.Bool.Decides.{eqb_tells}
use Rattle.std.proofs.lemmas.List.{length-append}
use Rattle.std.proofs.Math.Nat.{suc-mul}
use Rattle.std.specs.List.{AllByRecursion}
use Rattle.lane_queue.proofs.Lists.{of_append, of_one, of_other}
use Rattle.lane_queue.specs.Items.{of_lane, has_last}
use Rattle.lane_queue.specs.declared.item.Item.{Item}
use Rattle.upload_lanes.specs.inside.Sent.{bodies, is_last, IsMarked, parts, each_of, apart, spread, AreSmall}
use Rattle.upload_lanes.specs.declared.sent.Parcel.{Parcel}
use Rattle.upload_lanes.specs.declared.sent.Sent.{Sent}

pub all_front : {X : Type 0} (P : X → Type 0) (xs ys : List X) → AllByRecursion P (xs ++ ys) → AllByRecursion P xs
all_front P [] ys all = tt
all_front P (x ∷ xs) ys all = (all.0, all_front P xs ys all.1)

pub all_back : {X : Type 0} (P : X → Type 0) (xs ys : List X) → AllByRecursion P (xs ++ ys) → AllByRecursion P ys
all_back P [] ys all = all
all_back P (x ∷ xs) ys all = all_back P xs ys all.1

pub last_of : {X : Type 0} (P : X → Type 0) (xs : List X) (x : X) → AllByRecursion P (xs ++ x ∷ []) → P x
last_of P xs x all = (all_back P xs (x ∷ []) all).0

join : {X : Type 0} (a b c d : List X) → a ≡ b → c ≡ d → a ++ c ≡ b ++ d
join a b c d p q = ap (λ front. front ++ c) p ∙ ap (λ back. b ++ back) q

-- ---- lists

pub spread_append : (xs ys : List (Item Parcel)) → spread (xs ++ ys) ≡ spread xs ++ spread ys
spread_append [] ys = refl
spread_append (x ∷ xs) ys = ap (λ rest. apart x ++ rest) (spread_append xs ys) ∙ sym (append_assoc (apart x) (spread xs) (spread ys))

pub spread_more : (xs : List (Item Parcel)) (x : Item Parcel) → spread (xs ++ x ∷ []) ≡ spread xs ++ apart x
spread_more xs x = spread_append xs (x ∷ []) ∙ ap (λ rest. spread xs ++ rest) (append-nil (apart x))

module _ {B : Type 0} (item : Item B) where
  pub bodies_each : (all : List Sent) → bodies (each_of item all) ≡ all
  bodies_each [] = refl
  bodies_each (body ∷ all) = ap (λ rest. body ∷ rest) (bodies_each all)

  pub marked_each : (all : List Sent) → AllByRecursion (λ body. item.last ≡ is_last body) all → AllByRecursion IsMarked (each_of item all)
  marked_each [] marks = tt
  marked_each (body ∷ all) marks = (marks.0, marked_each all marks.1)

  pub within_each : (n : ℕ) (all : List Sent) → item.lane < n → AllByRecursion (λ (one : Item Sent). one.lane < n) (each_of item all)
  within_each n [] within = tt
  within_each n (body ∷ all) within = (within, within_each n all within)

  pub each_here : (k : ℕ) (all : List Sent) → item.lane ≡ k → of_lane k (each_of item all) ≡ each_of item all
  each_here k [] same = refl
  each_here k (body ∷ all) same =
      let one : Item Sent = record { lane = item.lane; number = item.number; last = item.last; body = body } in
      of_append k (one ∷ []) (each_of item all) ∙ join (of_lane k (one ∷ [])) (one ∷ []) (of_lane k (each_of item all)) (each_of item all) (of_one k one same) (each_here k all same)

  pub each_there : (k : ℕ) (all : List Sent) → item.lane ≢ k → of_lane k (each_of item all) ≡ []
  each_there k [] other = refl
  each_there k (body ∷ all) other =
      let one : Item Sent = record { lane = item.lane; number = item.number; last = item.last; body = body } in
      of_append k (one ∷ []) (each_of item all) ∙ join (of_lane k (one ∷ [])) [] (of_lane k (each_of item all)) [] (of_other k one other) (each_there k all other)

  or_none : (b : Bool) → (b || false) ≡ b
  or_none true = refl
  or_none false = refl

  or_same : (b : Bool) → (b || b) ≡ b
  or_same true = refl
  or_same false = refl

  last_each : (body : Sent) (all : List Sent) → has_last (each_of item (body ∷ all)) ≡ item.last
  last_each body [] = or_none item.last
  last_each body (next ∷ all) = ap (λ rest. item.last || rest) (last_each next all) ∙ or_same item.last

pub length_each : {B : Type 0} (item : Item B) (all : List Sent) → length (each_of item all) ≡ length all
length_each item [] = refl
length_each item (body ∷ all) = ap suc (length_each item all)

-- ---- a lane

pub of_spread : (k : ℕ) (xs : List (Item Parcel)) → of_lane k (spread xs) ≡ spread (of_lane k xs)
of_spread k [] = refl
of_spread k (x ∷ xs) = elim (eqb_tells x.lane k) [
  | inl same ↦
      of_append k (apart x) (spread xs) ∙ join (of_lane k (apart x)) (apart x) (of_lane k (spread xs)) (spread (of_lane k xs)) (each_here x k (parts x.body) same.1) (of_spread k xs)
      ∙ sym (ap spread (of_append k (x ∷ []) xs ∙ ap (λ front. front ++ of_lane k xs) (of_one k x same.1)))
  | inr other ↦
      of_append k (apart x) (spread xs) ∙ join (of_lane k (apart x)) [] (of_lane k (spread xs)) (spread (of_lane k xs)) (each_there x k (parts x.body) other.1) (of_spread k xs)
      ∙ sym (ap spread (of_append k (x ∷ []) xs ∙ ap (λ front. front ++ of_lane k xs) (of_other k x other.1)))
]

any_append : (xs ys : List (Item Sent)) → has_last (xs ++ ys) ≡ (has_last xs || has_last ys)
any_append [] ys = refl
any_append (x ∷ xs) ys = ap (λ rest. x.last || rest) (any_append xs ys) ∙ or_assoc x.last (has_last xs) (has_last ys)
  where
    or_assoc : (a b c : Bool) → (a || (b || c)) ≡ ((a || b) || c)
    or_assoc true b c = refl
    or_assoc false b c = refl

pub last_spread : (xs : List (Item Parcel)) → has_last (spread xs) ≡ has_last xs
last_spread [] = refl
last_spread (x ∷ xs) =
    any_append (apart x) (spread xs) ∙ ap (λ here. here || has_last (spread xs)) (last_each x x.body.first x.body.more.items) ∙ ap (λ rest. x.last || rest) (last_spread xs)

-- ---- how many

pub some_each : (xs : List (Item Parcel)) → length xs ≤ length (spread xs)
some_each [] = omega arith
some_each (x ∷ xs) =
    let rest = some_each xs in
    let all = length-append (apart x) (spread xs) in
    omega (arith, rest, all)

pub few_each : (size : ℕ) (xs : List (Item Parcel)) → AreSmall size xs → length (spread xs) ≤ length xs * size
few_each size [] small = omega arith
few_each size (x ∷ xs) small =
    let rest = few_each size xs small.1 in
    let here : length (apart x) ≤ size = let same = length_each x (parts x.body) in omega (arith, small.0, same) in
    let all = length-append (apart x) (spread xs) in
    let step : suc (length xs) * size ≡ length xs * size + size = suc-mul (length xs) size in
    omega (arith, rest, here, all, step)

pub more_places : (places size items many : ℕ) → items ≤ places → many ≤ items * size → many + size ≤ (places + 1) * size
more_places places size items many few fits =
    let most : items * size ≤ places * size = mul_less items places size few in
    let step : (places + 1) * size ≡ places * size + size = ap (λ n. n * size) (omega arith) ∙ suc-mul places size in
    omega (arith, most, step, fits)
  where
    mul_less : (a b c : ℕ) → a ≤ b → a * c ≤ b * c
    mul_less zero b c less = omega arith
    mul_less (suc a) zero c less = absurd (omega (arith, less))
    mul_less (suc a) (suc b) c less =
        let rest = mul_less a b c (omega (arith, less)) in
        let one : suc a * c ≡ a * c + c = suc-mul a c in
        let two : suc b * c ≡ b * c + c = suc-mul b c in
        omega (arith, rest, one, two)

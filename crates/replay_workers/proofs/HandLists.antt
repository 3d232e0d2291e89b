-- Items that are dealt to hands, of which each makes a list of its own, and these lists collected.
use Rattle.std.proofs.Common.{◌≡◌, ℕ, zero, suc, ◌-◌, ◌<◌, List, [], ◌∷◌, length, map, replicate, slice_get, slice_index_or, Result, Ok, Err, IfOk, Some, refl, sym, ap, ap₂, subst, ◌∙◌, arith}
use Rattle.std.proofs.lemmas.List.{length-map}
use Rattle.std.proofs.lemmas.Option.{slice_get_within}
use Rattle.round_robin.proofs.Dealing.{every_share, every_same}
use Rattle.round_robin.specs.Dealt.{every}
use Rattle.visit_replay.proofs.Places.{map_at, some_same, some_there}

map_every : {A B : Type 0} (f : A → B) (step at : ℕ) (xs : List A) → map f (every step at xs) ≡ every step at (map f xs)
map_every f step at [] = refl
map_every f step zero (x ∷ xs) = ap (λ rest. f x ∷ rest) (map_every f step (step - 1) xs)
map_every f step (suc at) (x ∷ xs) = map_every f step at xs

-- what is made of an item, and how it is read from what a hand gives
module _ {A B C V W : Type 0} (made : A → C) (read : B → C) (items : V → List A) (lists : W → List B) where
  -- each call made a list of a hand of its own
  hands_given : {E : Type 0} (hands : List V) (answers : List (Result W E)) (all : List W) → length answers ≡ length hands
      → ((k : ℕ) (one : Result W E) → k < length hands → (hand : V) × ((d : V) → slice_index_or hands k d ≡ hand)
      × IfOk (slice_index_or answers k one) (λ w. map read (lists w) ≡ map made (items hand)))
      → map (λ w. Ok w) all ≡ answers → map (λ w. map read (lists w)) all ≡ map (λ v. map made (items v)) hands
  hands_given [] [] [] size each is = refl
  hands_given [] [] (w ∷ all) size each is = absurd (omega (arith, ap length is))
  hands_given [] (answer ∷ answers) all size each is = absurd (omega (arith, size))
  hands_given (v ∷ hands) [] all size each is = absurd (omega (arith, size))
  hands_given (v ∷ hands) (answer ∷ answers) [] size each is = absurd (omega (arith, ap length is))
  hands_given (v ∷ hands) (answer ∷ answers) (w ∷ all) size each is =
      let first : answer ≡ Ok w = cc in
      let rest : map (λ w. Ok w) all ≡ answers = cc in
      let call = each 0 answer (omega arith) in
      let here : map read (lists w) ≡ map made (items call.0) =
      subst (λ a. IfOk a (λ w. map read (lists w) ≡ map made (items call.0))) first call.2 in
      ap₂ (λ x xs. x ∷ xs) (here ∙ ap (λ hand. map made (items hand)) (sym (call.1 v)))
      (hands_given hands answers all (omega (arith, size)) (λ k one below. each (suc k) one (omega (arith, below))) rest)

  pub hands_given_if : {E F Z : Type 0} (whole : Z → List W) (hands : List V) (answers : List (Result W E)) (result : Result Z F)
      → length answers ≡ length hands
      → ((k : ℕ) (one : Result W E) → k < length hands → (hand : V) × ((d : V) → slice_index_or hands k d ≡ hand)
      × IfOk (slice_index_or answers k one) (λ w. map read (lists w) ≡ map made (items hand)))
      → IfOk result (λ z. map (λ w. Ok w) (whole z) ≡ answers)
      → IfOk result (λ z. map (λ w. map read (lists w)) (whole z) ≡ map (λ v. map made (items v)) hands)
  hands_given_if whole hands answers (Err e) size each is = tt
  hands_given_if whole hands answers (Ok z) size each is = hands_given hands answers (whole z) size each is

  module _ (hands : List V) (all : List W) (same : map (λ w. map read (lists w)) all ≡ map (λ v. map made (items v)) hands)
      (parts : List A) (count : ℕ) (count_is : count ≡ length hands) (dealt : (a : ℕ) (v : V) → slice_get hands a ≡ Some v → items v ≡ every count a parts) where
    pub as_many : length all ≡ length hands
    as_many = sym (length-map all (λ w. map read (lists w))) ∙ ap length same ∙ length-map hands (λ v. map made (items v))

    hand_same : (a : ℕ) (w : W) → slice_get all a ≡ Some w → map read (lists w) ≡ map made (every count a parts)
    hand_same a w at =
        let (v, there) = some_there hands a (omega (arith, slice_get_within all a w at, as_many)) in
        some_same _ _ (sym (map_at (λ w. map read (lists w)) all a w at) ∙ ap (λ them. slice_get them a) same
        ∙ map_at (λ v. map made (items v)) hands a v there)
        ∙ ap (map made) (dealt a v there)

    -- so they can be collected
    pub shares : (n : ℕ) → n ≡ length parts → (a : ℕ) (w : W) → slice_get all a ≡ Some w
        → length (lists w) ≡ length (every {A = ℕ} (length all) a (replicate n 0))
    shares n n_is a w at =
        sym (length-map (lists w) read) ∙ ap length (hand_same a w at) ∙ length-map (every count a parts) made
        ∙ every_share count a n (every count a parts) parts refl (sym n_is)
        ∙ ap (λ s. length (every {A = ℕ} s a (replicate n 0))) (count_is ∙ sym as_many)

    -- and then each is what was made of its item
    pub collected : (result : List B) → 0 < count → length result ≡ length parts
        → ((a : ℕ) (w : W) → slice_get all a ≡ Some w → lists w ≡ every (length all) a result) → map read result ≡ map made parts
    collected result some_ size back =
        every_same count (map read result) (map made parts) (length-map result read ∙ size ∙ sym (length-map parts made)) some_
        (λ a within.
        let (w, at) = some_there all a (omega (arith, within, count_is, as_many)) in
        sym (map_every read count a result) ∙ ap (λ s. map read (every s a result)) (count_is ∙ sym as_many)
        ∙ ap (map read) (sym (back a w at)) ∙ hand_same a w at ∙ map_every made count a parts)

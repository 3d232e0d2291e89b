-- The items of a list at some places, where these are the places of certain items.
use Rattle.std.proofs.Common.{◌≡◌, ℕ, List, [], ◌∷◌, ◌++◌, length, map, take, flat_map, Some, slice_get, refl, ap, sym, ◌∙◌}
use Rattle.std.specs.Option.{option_map_or}
use Rattle.std.proofs.lemmas.List.{take-map, length-map}

-- what each of them gives
pub all_passing : {A : Type 0} (f : A → List ℕ) (xs : List A) (places : List ℕ) (passing : List A)
    → map (slice_get xs) places ≡ map Some passing
    → flat_map (λ place. option_map_or f (slice_get xs place) []) places ≡ flat_map f passing
all_passing f xs [] [] e = refl
all_passing f xs [] (one ∷ rest) e = absurd (cc)
all_passing f xs (place ∷ places) [] e = absurd (cc)
all_passing f xs (place ∷ places) (one ∷ rest) e =
    let here : slice_get xs place ≡ Some one = cc in
    let others : map (slice_get xs) places ≡ map Some rest = cc in
    let first : option_map_or f (slice_get xs place) [] ≡ f one = ap (λ found. option_map_or f found []) here in
    let behind = all_passing f xs places rest others in
    cc

-- the first of them
pub first_passing : {A : Type 0} (n : ℕ) (xs : List A) (places : List ℕ) (passing : List A)
    → map (slice_get xs) places ≡ map Some passing → map (slice_get xs) (take n places) ≡ map Some (take n passing)
first_passing n xs places passing e = sym (take-map (slice_get xs) n places) ∙ ap (take n) e ∙ take-map Some n passing

-- how many there are
pub many_passing : {A : Type 0} (xs : List A) (places : List ℕ) (passing : List A)
    → map (slice_get xs) places ≡ map Some passing → length places ≡ length passing
many_passing xs places passing e = sym (length-map places (slice_get xs)) ∙ ap length e ∙ length-map passing Some

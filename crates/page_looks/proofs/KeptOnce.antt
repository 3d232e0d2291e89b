-- A thing that is looked for among those that are kept.
use Rattle.std.proofs.Common.{◌≡◌, ℕ, zero, suc, ◌+◌, List, [], ◌∷◌, ◌++◌, length, map, Bool, true, false, not, cond, Some, None, Option, option_map, slice_get, MatchOption, position, refl, sym, ◌∙◌, ap, ◌⊎◌, inl, inr, arith, append_assoc, true≢false, is_some, length-append, if◌then◌else◌}
use Rattle.std.specs.List.{list_any, position_or_len}
use Rattle.std.specs.Str.{bytes_eq}
use Rattle.std.proofs.lemmas.Option.{slice_get-map, slice_get-get_or}
use Rattle.std.proofs.lemmas.List.Quantifiers.{position-Some}
use Rattle.std.proofs.lemmas.Slice.Eq.{bytes_eq-Decides}
use Rattle.std.proofs.lemmas.Bool.{or_parts}
use Rattle.page_looks.specs.inside.Numbers.{AreApart, IsAbsent, IsPutIn, StandFor}

-- ---- finding

found_at : {X : Type 0} (test : X → Bool) (xs : List X) (i : ℕ) → position test xs ≡ Some i → (x : X) × (slice_get xs i ≡ Some x) × (test x ≡ true)
found_at test [] i is = cc
found_at test (x ∷ xs) i is =
    let (less, passes, first) = position-Some test (x ∷ xs) i x is in
    (_, slice_get-get_or (x ∷ xs) i x less, passes)

none_passes : {X : Type 0} (test : X → Bool) (xs : List X) (i : ℕ) (x : X) → list_any test xs ≡ false → slice_get xs i ≡ Some x → test x ≡ false
none_passes test [] i x none is = cc
none_passes test (y ∷ ys) zero x none is =
    let same : y ≡ x = cc in
    rw same at ((or_parts (test y) (list_any test ys) none).0)
none_passes test (y ∷ ys) (suc i) x none is = none_passes test ys i x ((or_parts (test y) (list_any test ys) none).1) is

seen_at : {X : Type 0} (view : X → List ℕ) (xs : List X) (i : ℕ) (q : List ℕ) (o : Option X) → slice_get xs i ≡ o → slice_get (map view xs) i ≡ Some q
    → (x : X) × (slice_get xs i ≡ Some x) × (view x ≡ q)
seen_at view xs i q None is there =
    let none : slice_get (map view xs) i ≡ None = slice_get-map view xs i ∙ ap (option_map view) is in
    cc
seen_at view xs i q (Some x) is there =
    let some : slice_get (map view xs) i ≡ Some (view x) = slice_get-map view xs i ∙ ap (option_map view) is in
    (x, is, cc)

pub find_by : {X : Type 0} (view : X → List ℕ) (q : List ℕ) (xs : List X) (found : Option ℕ)
    → found ≡ position (λ k. bytes_eq q (view k)) xs → is_some found ≡ list_any (λ k. bytes_eq q (view k)) xs
    → MatchOption found (IsAbsent (map view xs) q) (λ i. slice_get (map view xs) i ≡ Some q)
find_by view q xs None is some = λ i there.
    let (x, at, same) = seen_at view xs i q (slice_get xs i) refl there in
    let fails : bytes_eq q (view x) ≡ false = none_passes (λ k. bytes_eq q (view k)) xs i x (sym some) at in
    true≢false (sym ((bytes_eq-Decides q (view x)).1 (sym same)) ∙ fails)
find_by view q xs (Some i) is some =
    let (x, at, passes) = found_at (λ k. bytes_eq q (view k)) xs i (sym is) in
    slice_get-map view xs i ∙ ap (option_map view) at ∙ ap Some (sym ((bytes_eq-Decides q (view x)).0 passes))

-- what stands there is compared with it
pub seen_there : {X : Type 0} (view : X → List ℕ) (xs : List X) (i : ℕ) (x : X) (text q : List ℕ) (b : Bool) → Some x ≡ slice_get xs i → text ≡ view x
    → b ≡ bytes_eq text q → b ≡ true → slice_get (map view xs) i ≡ Some q
seen_there view xs i x text q b is seen tested passes =
    slice_get-map view xs i ∙ ap (option_map view) (sym is) ∙ ap Some (sym seen ∙ (bytes_eq-Decides text q).0 (sym tested ∙ passes))

-- ---- putting in

none_long : {X : Type 0} (test : X → Bool) (xs : List X) → list_any test xs ≡ false → position_or_len test xs ≡ length xs
none_long test [] none = refl
none_long test (x ∷ xs) none =
    let parts = or_parts (test x) (list_any test xs) none in
    ap (λ b. cond (not b) (1 + position_or_len test xs) 0) parts.0 ∙ omega (arith, none_long test xs parts.1)

map-snoc : {X : Type 0} (view : X → List ℕ) (xs : List X) (x : X) → map view (xs ++ x ∷ []) ≡ map view xs ++ view x ∷ []
map-snoc view [] x = refl
map-snoc view (y ∷ ys) x = ap (λ r. view y ∷ r) (map-snoc view ys x)

length-mapped : {X : Type 0} (view : X → List ℕ) (xs : List X) → length (map view xs) ≡ length xs
length-mapped view [] = refl
length-mapped view (x ∷ xs) = ap suc (length-mapped view xs)

-- a thing was put in, or was found
pub put_by : {X : Type 0} (view : X → List ℕ) (x : X) (xs ys : List X) (i : ℕ) → ys ≡ (if list_any (λ k. bytes_eq (view x) (view k)) xs then xs else xs ++ x ∷ [])
    → i ≡ position_or_len (λ k. bytes_eq (view x) (view k)) xs → (k : X) × (slice_get ys i ≡ Some k) × (bytes_eq (view x) (view k) ≡ true) → IsPutIn (map view xs) (map view ys) (view x) i
put_by {X = X} view x xs ys i is first (k, at, passes) = record {
  at = slice_get-map view ys i ∙ ap (option_map view) at ∙ ap Some (sym ((bytes_eq-Decides (view x) (view k)).0 passes));
  grown = grown (list_any test xs) refl;
}
  where
    test : X → Bool
    test k = bytes_eq (view x) (view k)

    grown : (b : Bool) → list_any test xs ≡ b → (map view ys ≡ map view xs) ⊎ ((map view ys ≡ map view xs ++ view x ∷ []) × (i ≡ length (map view xs)) × IsAbsent (map view xs) (view x))
    grown true some = inl (ap (map view) (is ∙ ap (λ b. if b then xs else xs ++ x ∷ []) some))
    grown false none = inr (
      ap (map view) (is ∙ ap (λ b. if b then xs else xs ++ x ∷ []) none) ∙ map-snoc view xs x,
      first ∙ none_long test xs none ∙ sym (length-mapped view xs),
      λ j there.
          let (y, seen, same) = seen_at view xs j (view x) (slice_get xs j) refl there in
          true≢false (sym ((bytes_eq-Decides (view x) (view y)).1 (sym same)) ∙ none_passes test xs j y none seen),
    )

-- ---- lists behind one another

pub get_first : {X : Type 0} (xs ys : List X) (i : ℕ) (x : X) → slice_get xs i ≡ Some x → slice_get (xs ++ ys) i ≡ Some x
get_first [] ys i x is = cc
get_first (z ∷ zs) ys zero x is = is
get_first (z ∷ zs) ys (suc i) x is = get_first zs ys i x is

pub get_behind : {X : Type 0} (xs ys : List X) (i : ℕ) → slice_get (xs ++ ys) (length xs + i) ≡ slice_get ys i
get_behind [] ys i = ap (slice_get ys) (omega arith)
get_behind (z ∷ zs) ys i =
    let next : suc (length zs) + i ≡ suc (length zs + i) = omega arith in
    rw next (get_behind zs ys i)

pub get_either : {X : Type 0} (xs ys : List X) (i : ℕ) (x : X) → slice_get (xs ++ ys) i ≡ Some x
    → (slice_get xs i ≡ Some x) ⊎ ((j : ℕ) × (i ≡ length xs + j) × (slice_get ys j ≡ Some x))
get_either [] ys i x is = inr (i, omega arith, is)
get_either (z ∷ zs) ys zero x is = inl is
get_either (z ∷ zs) ys (suc i) x is = elim (get_either zs ys i x is) [
  | inl at ↦ inl at
  | inr w ↦ inr (w.0, omega (arith, w.1), w.2)
]

absent_both : {X : Type 0} (xs ys : List X) (x : X) → IsAbsent xs x → IsAbsent ys x → IsAbsent (xs ++ ys) x
absent_both xs ys x here there i is = elim (get_either xs ys i x is) [
  | inl at ↦ here i at
  | inr w ↦ there w.0 w.2
]

pub found_below : (below old : List (List ℕ)) (x : List ℕ) (n i : ℕ) → slice_get below i ≡ Some x → n ≡ i → IsPutIn (below ++ old) (below ++ old) x n
found_below below old x n i at same = record { at = rw same (get_first below old i x at); grown = inl refl }

pub put_behind : (below old new : List (List ℕ)) (x : List ℕ) (n m i : ℕ) → IsAbsent below x → IsPutIn old new x i → m ≡ length below → n ≡ m + i → IsPutIn (below ++ old) (below ++ new) x n
put_behind below old new x n m i absent put many same = record {
  at = rw (same, many) (get_behind below new i ∙ put.at);
  grown = elim put.grown [
    | inl is ↦ inl (ap (λ xs. below ++ xs) is)
    | inr w ↦ inr (ap (λ xs. below ++ xs) w.0 ∙ sym (append_assoc below old (x ∷ [])), omega (arith, length-append below old, many, same, w.1), absent_both below old x absent w.2)
  ];
}

-- ---- apart

pub apart_none : {X : Type 0} → AreApart {X = X} []
apart_none i j x is at = cc

one_end : {X : Type 0} (y x : X) (j : ℕ) → slice_get (y ∷ []) j ≡ Some x → (j ≡ 0) × (x ≡ y)
one_end y x zero is = (refl, cc)
one_end y x (suc j) is = cc

pub apart_more : {X : Type 0} (xs : List X) (y : X) → AreApart xs → IsAbsent xs y → AreApart (xs ++ y ∷ [])
apart_more xs y apart absent i j x is at = elim (get_either xs (y ∷ []) i x is) [
  | inl here ↦ elim (get_either xs (y ∷ []) j x at) [
    | inl there ↦ apart i j x here there
    | inr w ↦ absurd (absent i (rw ((one_end y x w.0 w.2).1) at here))
  ]
  | inr v ↦ elim (get_either xs (y ∷ []) j x at) [
    | inl there ↦ absurd (absent j (rw ((one_end y x v.0 v.2).1) at there))
    | inr w ↦ omega (arith, v.1, w.1, (one_end y x v.0 v.2).0, (one_end y x w.0 w.2).0)
  ]
]

-- ---- numbers that stand for things

pub stand_more : {X : Type 0} (all more : List X) (ns : List ℕ) (xs : List X) → StandFor all ns xs → StandFor (all ++ more) ns xs
stand_more all more [] [] are = refl
stand_more all more [] (x ∷ xs) are = cc
stand_more all more (n ∷ ns) [] are = cc
stand_more all more (n ∷ ns) (x ∷ xs) are =
    let here : slice_get all n ≡ Some x = cc in
    let rest : StandFor all ns xs = cc in
    let first : slice_get (all ++ more) n ≡ Some x = get_first all more n x here in
    let later : map (slice_get (all ++ more)) ns ≡ map Some xs = stand_more all more ns xs rest in
    cc

-- they are the only ones
pub stand_once : {X : Type 0} (all : List X) (ns ms : List ℕ) (xs : List X) → AreApart all → StandFor all ns xs → StandFor all ms xs → ns ≡ ms
stand_once all [] [] xs apart are too = refl
stand_once all [] (m ∷ ms) [] apart are too = cc
stand_once all [] (m ∷ ms) (x ∷ xs) apart are too = cc
stand_once all (n ∷ ns) [] [] apart are too = cc
stand_once all (n ∷ ns) [] (x ∷ xs) apart are too = cc
stand_once all (n ∷ ns) (m ∷ ms) [] apart are too = cc
stand_once all (n ∷ ns) (m ∷ ms) (x ∷ xs) apart are too =
    let here : slice_get all n ≡ Some x = cc in
    let there : slice_get all m ≡ Some x = cc in
    let rest : StandFor all ns xs = cc in
    let later : StandFor all ms xs = cc in
    let first : n ≡ m = apart n m x here there in
    let others : ns ≡ ms = stand_once all ns ms xs apart rest later in
    cc

map_some : {X : Type 0} (xs ys : List X) → map Some xs ≡ map Some ys → xs ≡ ys
map_some [] [] same = refl
map_some [] (y ∷ ys) same = cc
map_some (x ∷ xs) [] same = cc
map_some (x ∷ xs) (y ∷ ys) same =
    let first : x ≡ y = cc in
    let rest : map Some xs ≡ map Some ys = cc in
    let later : xs ≡ ys = map_some xs ys rest in
    cc

-- and stand for nothing else
pub stand_same : {X : Type 0} (all : List X) (ns : List ℕ) (xs ys : List X) → StandFor all ns xs → StandFor all ns ys → xs ≡ ys
stand_same all ns xs ys are too = map_some xs ys (sym are ∙ too)

pub stand_length : {X : Type 0} (all : List X) (ns : List ℕ) (xs : List X) → StandFor all ns xs → length ns ≡ length xs
stand_length all [] [] are = refl
stand_length all [] (x ∷ xs) are = cc
stand_length all (n ∷ ns) [] are = cc
stand_length all (n ∷ ns) (x ∷ xs) are =
    let rest : StandFor all ns xs = cc in
    ap suc (stand_length all ns xs rest)

pub stand_append : {X : Type 0} (all : List X) (ns ms : List ℕ) (xs ys : List X) → StandFor all ns xs → StandFor all ms ys → StandFor all (ns ++ ms) (xs ++ ys)
stand_append all [] ms [] ys are too = too
stand_append all [] ms (x ∷ xs) ys are too = cc
stand_append all (n ∷ ns) ms [] ys are too = cc
stand_append all (n ∷ ns) ms (x ∷ xs) ys are too =
    let here : slice_get all n ≡ Some x = cc in
    let rest : StandFor all ns xs = cc in
    let later : map (slice_get all) (ns ++ ms) ≡ map Some (xs ++ ys) = stand_append all ns ms xs ys rest too in
    cc

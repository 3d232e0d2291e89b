-- One place more of what is gone through.
use Rattle.std.proofs.Common.{◌≡◌, ℕ, zero, suc, ◌+◌, ◌<◌, ◌≤◌, inl, inr, List, [], ◌∷◌, ◌++◌, length, get_or, take, drop, map, filter, count_by, slice_get, Bool, true, false, cond, ◌&&◌, if◌then◌else◌, nat_le, nat_lt, Option, Some, None, option_and_then, refl, sym, ap, ◌∙◌, arith, IsTrue, ◌↔◌, subst}
use Rattle.std.specs.List.{range_with_len, filter_map, cons_option}
use Rattle.std.specs.Option.{option_to_list}
use Rattle.std.specs.Borrow.{Bor}
use Rattle.std.proofs.lemmas.Bool.{cases_lt, leb-true, leb-false, ltb-true, ltb-false}
use Rattle.std.proofs.lemmas.Option.{get_or_from_slice_get, slice_get_within}
use Rattle.std.proofs.lemmas.List.{take_all, drop_all, take-append-le, drop-append-le, append-nil, get_or_append_left, get_or_push, length_push, length-take}
use Rattle.std.proofs.lemmas.List.Sums.{sum_by_more, length-filter, count_by-le-length}
use Rattle.std.proofs.lemmas.List.Elements.{filter_map-append, filter-append}
use Rattle.std.proofs.lemmas.List.FromFn.{length-range_with_len}
use Rattle.conflict_desk.specs.Docket.{parent_of}
use Rattle.conflict_desk.specs.declared.docket.Case.{Case}
use Rattle.review_state.specs.Paging.{shown_of}
use Rattle.review_state.specs.Finding.{IsFoundIn}

module _ {X : Type 0} where
  pub there_is : (xs : List X) (k : ℕ) → k < length xs → (x : X) × (slice_get xs k ≡ Some x)
  there_is [] k within = absurd (omega (arith, within))
  there_is (y ∷ xs) zero within = (y, refl)
  there_is (y ∷ xs) (suc k) within = there_is xs k (omega (arith, within))

  pub counted : (p : X → Bool) (xs : List X) (i : ℕ) (x : X) → slice_get xs i ≡ Some x
      → count_by p (take (i + 1) xs) ≡ count_by p (take i xs) + (if p x then 1 else 0)
  counted p xs i x at =
      let more = sum_by_more (λ y. cond (p y) 1 0) xs i x (slice_get_within xs i x at) in
      more ∙ ap (λ y. count_by p (take i xs) + cond (p y) 1 0) (get_or_from_slice_get xs i x x at)

-- ---- places from the first on

range_push : (a n : ℕ) → range_with_len a (n + 1) ≡ range_with_len a n ++ (a + n) ∷ []
range_push a zero = let none : a ≡ a + 0 = omega arith in ap (λ k. k ∷ []) none
range_push a (suc n) =
    let step : suc n + 1 ≡ suc (n + 1) = omega arith in
    let last : a + 1 + n ≡ a + suc n = omega arith in
    ap (range_with_len a) step ∙ ap (λ ks. a ∷ ks) (range_push (a + 1) n ∙ ap (λ k. range_with_len (a + 1) n ++ k ∷ []) last)

pub place_more : (n : ℕ) → range_with_len 0 (n + 1) ≡ range_with_len 0 n ++ n ∷ []
place_more n = let first : 0 + n ≡ n = omega arith in range_push 0 n ∙ ap (λ k. range_with_len 0 n ++ k ∷ []) first

as_list : {X : Type 0} (o : Option X) → cons_option o [] ≡ option_to_list o
as_list None = refl
as_list (Some x) = refl

pub mapped_more : {X : Type 0} (h : ℕ → Option X) (n : ℕ) (o : Option X) → h n ≡ o
    → filter_map h (range_with_len 0 (n + 1)) ≡ filter_map h (range_with_len 0 n) ++ option_to_list o
mapped_more h n o is =
    ap (filter_map h) (place_more n) ∙ filter_map-append h (range_with_len 0 n) (n ∷ [])
    ∙ ap (λ front. filter_map h (range_with_len 0 n) ++ front) (as_list (h n) ∙ ap option_to_list is)

pub marked_more : (p : ℕ → Bool) (n : ℕ) (mark : Bool) → p n ≡ mark
    → filter p (range_with_len 0 (n + 1)) ≡ filter p (range_with_len 0 n) ++ (if mark then n ∷ [] else [])
marked_more p n mark is =
    ap (filter p) (place_more n) ∙ filter-append p (range_with_len 0 n) (n ∷ [])
    ∙ ap (λ b. filter p (range_with_len 0 n) ++ cond b (n ∷ []) []) is

pub few_marked : (p : ℕ → Bool) (n : ℕ) → length (filter p (range_with_len 0 n)) ≤ n
few_marked p n =
    omega (arith, length-filter p (range_with_len 0 n), count_by-le-length p (range_with_len 0 n), length-range_with_len 0 n)

-- ---- a page

module _ (from most x : ℕ) (xs : List ℕ) where
  behind_page : length xs < from → shown_of from most (xs ++ x ∷ []) ≡ shown_of from most xs
  behind_page less =
      ap (take most) (drop_all from (xs ++ x ∷ []) (omega (arith, length_push xs x)) ∙ sym (drop_all from xs (omega arith)))

  on_page : from ≤ length xs → shown_of from most (xs ++ x ∷ []) ≡ take most (drop from xs ++ x ∷ [])
  on_page within = ap (take most) (drop-append-le from xs (x ∷ []) within)

  with_room : length (take most (drop from xs)) < most
      → take most (drop from xs ++ x ∷ []) ≡ shown_of from most xs ++ x ∷ []
  with_room room =
      let few : length (drop from xs) < most = omega (arith, room, length-take most (drop from xs)) in
      take_all most (drop from xs ++ x ∷ []) (omega (arith, length_push (drop from xs) x))
      ∙ ap (λ ys. ys ++ x ∷ []) (sym (take_all most (drop from xs) (omega arith)))

  without_room : most ≤ length (take most (drop from xs)) → take most (drop from xs ++ x ∷ []) ≡ shown_of from most xs
  without_room full = take-append-le most (drop from xs) (x ∷ []) (omega (arith, full, length-take most (drop from xs)))

  page_by : (begun room : Bool) → nat_le from (length xs) ≡ begun → nat_lt (length (shown_of from most xs)) most ≡ room
      → shown_of from most (xs ++ x ∷ [])
      ≡ (if begun && room then shown_of from most xs ++ x ∷ [] else shown_of from most xs)
  page_by false room begins fits = behind_page (leb-false from (length xs) begins)
  page_by true true begins fits = on_page (leb-true from (length xs) begins) ∙ with_room (ltb-true _ _ fits)
  page_by true false begins fits = on_page (leb-true from (length xs) begins) ∙ without_room (ltb-false _ _ fits)

  pub page_more : (mark : Bool) → shown_of from most (xs ++ (if mark then x ∷ [] else []))
      ≡ (if mark && (nat_le from (length xs) && nat_lt (length (shown_of from most xs)) most) then shown_of from most xs ++ x ∷ []
      else shown_of from most xs)
  page_more false = ap (shown_of from most) (append-nil xs)
  page_more true = page_by (nat_le from (length xs)) (nat_lt (length (shown_of from most xs)) most) refl refl

pub one_counted : (xs : List ℕ) (x : ℕ) (mark : Bool) → length (xs ++ (if mark then x ∷ [] else [])) ≡ length xs + (if mark then 1 else 0)
one_counted xs x true = length_push xs x
one_counted xs x false = ap length (append-nil xs) ∙ (let none : length xs ≡ length xs + 0 = omega arith in none)

-- ---- openers

-- by the places before that one
pub record AreOpenersTo (cases : List Case) (place : ℕ) (openers : List (Option ℕ)) : Type 0 where
  pub count : length openers ≡ place
  pub each : (k : ℕ) (case : Case) → k < place → slice_get cases k ≡ Some case
      → option_and_then (slice_get cases) (get_or openers k None) ≡ parent_of cases case

pub opener_more : (cases : List Case) (place : ℕ) (openers : List (Option ℕ)) (opener : Option ℕ) → AreOpenersTo cases place openers
    → ((case : Case) → slice_get cases place ≡ Some case → option_and_then (slice_get cases) opener ≡ parent_of cases case)
    → AreOpenersTo cases (place + 1) (openers ++ opener ∷ [])
opener_more cases place openers opener are is = record {
  count = omega (arith, are.count, length_push openers opener);
  each = λ k case less at_k. elim (cases_lt k place) [
    | inl before ↦
        ap (option_and_then (slice_get cases)) (get_or_append_left openers (opener ∷ []) None k (omega (arith, are.count)))
        ∙ are.each k case before at_k
    | inr here ↦
        let same : k ≡ place = omega arith in
        ap (option_and_then (slice_get cases))
        (ap (λ p. get_or (openers ++ opener ∷ []) p None) same ∙ get_or_push openers opener None place are.count)
        ∙ is case (ap (slice_get cases) (sym same) ∙ at_k)
  ];
}

-- ---- texts by their places

pub name_at : (clients : List (Bor (List ℕ))) (k : ℕ) (client : Bor (List ℕ)) → k < length clients
    → client ≡ get_or clients k client → get_or (map (λ c. c.now) clients) k [] ≡ client.now
name_at [] k client within is = absurd (omega (arith, within))
name_at (c ∷ clients) zero client within is = ap (λ x. x.now) (sym is)
name_at (c ∷ clients) (suc k) client within is = name_at clients k client (omega (arith, within)) is

-- those before that place are marked where they have the part
pub record AreFoundTo (part : List ℕ) (texts : List (List ℕ)) (place : ℕ) (marks : List Bool) : Type 0 where
  pub count : length marks ≡ place
  pub each : (k : ℕ) → k < place → IsTrue (get_or marks k false) ↔ IsFoundIn part (get_or texts k [])

pub found_more : (part : List ℕ) (texts : List (List ℕ)) (place : ℕ) (marks : List Bool) (mark : Bool)
    → AreFoundTo part texts place marks → (IsTrue mark ↔ IsFoundIn part (get_or texts place []))
    → AreFoundTo part texts (place + 1) (marks ++ mark ∷ [])
found_more part texts place marks mark are is = record {
  count = omega (arith, are.count, length_push marks mark);
  each = λ k less. elim (cases_lt k place) [
    | inl before ↦
        subst (λ b. IsTrue b ↔ IsFoundIn part (get_or texts k []))
        (sym (get_or_append_left marks (mark ∷ []) false k (omega (arith, are.count)))) (are.each k before)
    | inr here ↦
        let same : k ≡ place = omega arith in
        subst (λ p. IsTrue (get_or (marks ++ mark ∷ []) p false) ↔ IsFoundIn part (get_or texts p [])) (sym same)
        (subst (λ b. IsTrue b ↔ IsFoundIn part (get_or texts place [])) (sym (get_or_push marks mark false place are.count)) is)
  ];
}

pub text_at : (texts : List (Bor (List ℕ))) (k : ℕ) (none : Bor (List ℕ)) → none.now ≡ []
    → (get_or texts k none).now ≡ get_or (map (λ t. t.now) texts) k []
text_at [] k none is = is
text_at (t ∷ texts) zero none is = refl
text_at (t ∷ texts) (suc k) none is = text_at texts k none is

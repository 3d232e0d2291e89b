-- Hidden inputs by the numbers of their nodes.
use Rattle.std.proofs.Common.{◌≡◌, ℕ, zero, suc, ◌+◌, ◌==◌, ◌<◌, List, [], ◌∷◌, ◌++◌, filter, length, map, Bool, true, false, ◌&&◌, cond, if◌then◌else◌, Option, Some, None, option_map, option_and_then, slice_get, Ok, Err, IfOk, IfSome, inl, inr, refl, sym, ap, ap₂, ◌∙◌, arith, zero-add}
use Rattle.std.specs.List.{position, position_from, range_with_len}
use Rattle.std.specs.Option.{option_map_or}
use Rattle.std.specs.Str.{bytes_eq}
use Rattle.std.proofs.lemmas.Bool.Decides.{leb_tells}
use Rattle.std.proofs.lemmas.Iterator.Adapters.{position_from-zero}
use Rattle.std.proofs.lemmas.List.{map-append, length-map}
use Rattle.std.proofs.lemmas.List.Elements.{filter-append}
use Rattle.page_tree.specs.Tree.{Tree}
use Rattle.page_tree.specs.Look.{child_count_at}
use Rattle.page_tree.specs.Limits.{nodes}
use Rattle.page_tree.specs.Number.{place_numbered}
use Rattle.page_tree.proofs.Numbers.{range-append, has_none}
use Rattle.visit_replay.specs.Aim.{found_or, none_or_many, is_hidden_input, is_hidden_at, is_hidden_named, hidden_named, twin_in}
use Rattle.visit_replay.specs.inside.OneEvent.{placed}
use Rattle.visit_replay.specs.declared.outcome.ConflictKind.{ConflictKind}
use Rattle.visit_replay.specs.declared.outcome.ConflictKind.TheVariants.{NoTarget, ManyTargets}
use Rattle.visit_replay.proofs.Numbered.{same_place}
use Rattle.visit_replay.proofs.Places.{map_at}

-- ---- those of a name, one child after the other

one_named : (t : Tree) (test : List ℕ → Bool) (q : List ℕ) (n : ℕ) (b : Bool) → place_numbered n t ≡ q → b ≡ test (place_numbered n t) → map (λ k. place_numbered k t) (if b then n ∷ [] else []) ≡ filter test (q ∷ [])
one_named t test q n true place is = ap (λ p. p ∷ []) place ∙ ap (λ b. cond b (q ∷ []) []) (is ∙ ap test place)
one_named t test q n false place is = ap (λ b. cond b (q ∷ []) []) (is ∙ ap test place)

pub named_more : (t : Tree) (test : List ℕ → Bool) (at : List ℕ) (i : ℕ) (found : List ℕ) (n : ℕ) (b : Bool) → place_numbered n t ≡ at ++ i ∷ [] → b ≡ test (place_numbered n t)
    → map (λ k. place_numbered k t) found ≡ filter test (map (λ j. at ++ j ∷ []) (range_with_len 0 i))
    → map (λ k. place_numbered k t) (found ++ (if b then n ∷ [] else [])) ≡ filter test (map (λ j. at ++ j ∷ []) (range_with_len 0 (i + 1)))
named_more t test at i found n b place is so_far =
    let child : ℕ → List ℕ = λ j. at ++ j ∷ [] in
    map-append (λ k. place_numbered k t) found (if b then n ∷ [] else [])
    ∙ ap₂ (λ (xs ys : List (List ℕ)). xs ++ ys) so_far (one_named t test (child i) n b place is)
    ∙ sym (filter-append test (map child (range_with_len 0 i)) (child i ∷ []))
    ∙ ap (filter test)
    (ap (λ k. map child (range_with_len 0 i) ++ child k ∷ []) (sym (zero-add i)) ∙ sym (map-append child (range_with_len 0 i) (range_with_len (0 + i) 1)) ∙ ap (map child) (sym (range-append 0 i 1)))

-- ---- each is a node

abbrev PassAt : {X : Type 0} → (X → Bool) → List X → X → Type 0
PassAt test xs x = (k : ℕ) → slice_get xs k ≡ Some x → test x ≡ true

pass_first : {X : Type 0} (test : X → Bool) (y x : X) (xs : List X) → test y ≡ true → PassAt test xs x → PassAt test (y ∷ xs) x
pass_first test y x xs is later zero at = let same : y ≡ x = cc in ap test (sym same) ∙ is
pass_first test y x xs is later (suc k) at = later k at

passes_at : {X : Type 0} (test : X → Bool) (xs : List X) (x : X) → PassAt test (filter test xs) x
passes_at test [] x k at = cc
passes_at test (y ∷ xs) x k at = go (test y) refl (passes_at test xs x) at
  where
    go : (b : Bool) → test y ≡ b → PassAt test (filter test xs) x → slice_get (cond b (y ∷ filter test xs) (filter test xs)) k ≡ Some x → test x ≡ true
    go false is later at = later k at
    go true is later at = pass_first test y x (filter test xs) is later k at

left_true : (a b : Bool) → a && b ≡ true → a ≡ true
left_true true b is = refl
left_true false b is = cc

hidden_there : (t : Tree) (n : ℕ) → is_hidden_at t (place_numbered n t) ≡ true → n < nodes t
hidden_there t n hidden = elim (leb_tells (nodes t) n) [
  | inl past ↦ let none : false ≡ true = sym (ap (λ o. option_map_or is_hidden_input o false) (has_none n t past.1)) ∙ hidden in cc
  | inr there ↦ there.1
]

pub hidden_within : (t : Tree) (name : Option (List ℕ)) (at : List ℕ) (ns : List ℕ) → map (λ n. place_numbered n t) ns ≡ hidden_named name at t → (k n : ℕ) → slice_get ns k ≡ Some n → n < nodes t
hidden_within t name at ns are k n is =
    let passes : is_hidden_named name t (place_numbered n t) ≡ true =
    passes_at (is_hidden_named name t) (map (λ i. at ++ i ∷ []) (range_with_len 0 (child_count_at at t))) (place_numbered n t) k (sym (ap (λ qs. slice_get qs k) are) ∙ map_at (λ n. place_numbered n t) ns k n is) in
    hidden_there t n (left_true _ _ passes)

-- ---- the k-th of the one list

many_alike : {X Y : Type 0} (f : X → Y) (xs : List X) → none_or_many (map f xs) ≡ none_or_many xs
many_alike f [] = refl
many_alike f (x ∷ xs) = refl

get_mapped : {X Y : Type 0} (f : X → Y) (xs : List X) (k : ℕ) → slice_get (map f xs) k ≡ option_map f (slice_get xs k)
get_mapped f [] k = refl
get_mapped f (x ∷ xs) zero = refl
get_mapped f (x ∷ xs) (suc k) = get_mapped f xs k

picked : {X Y : Type 0} (f : X → Y) (xs : List X) (b : Bool) (o : Option ℕ)
    → (if b then option_and_then (slice_get (map f xs)) o else None) ≡ option_map f (if b then option_and_then (slice_get xs) o else None)
picked f xs false o = refl
picked f xs true None = refl
picked f xs true (Some k) = get_mapped f xs k

placed_found : (new : Tree) (kind : ConflictKind) (o : Option ℕ) → placed new (found_or kind o) ≡ found_or kind (option_map (λ n. place_numbered n new) o)
placed_found new kind None = refl
placed_found new kind (Some n) = refl

from_alike : (t : Tree) (number i : ℕ) (ns : List ℕ) → number < nodes t → ((k n : ℕ) → slice_get ns k ≡ Some n → n < nodes t)
    → position_from (bytes_eq (place_numbered number t)) i (map (λ n. place_numbered n t) ns) ≡ position_from (λ n. number == n) i ns
from_alike t number i [] there within = refl
from_alike t number i (n ∷ ns) there within =
    ap (λ b. cond b (Some i) (position_from (bytes_eq (place_numbered number t)) (i + 1) (map (λ n. place_numbered n t) ns))) (same_place number n t there (within 0 n refl))
    ∙ ap (λ o. cond (number == n) (Some i) o) (from_alike t number (i + 1) ns there (λ k m at. within (suc k) m at))

position_alike : (t : Tree) (number : ℕ) (ns : List ℕ) → number < nodes t → ((k n : ℕ) → slice_get ns k ≡ Some n → n < nodes t)
    → position (bytes_eq (place_numbered number t)) (map (λ n. place_numbered n t) ns) ≡ position (λ n. number == n) ns
position_alike t number ns there within =
    position_from-zero (bytes_eq (place_numbered number t)) (map (λ n. place_numbered n t) ns) ∙ from_alike t number 0 ns there within ∙ sym (position_from-zero (λ n. number == n) ns)

pub placed_twin : (old new : Tree) (olds news : List ℕ) (number : ℕ) → number < nodes old → ((k n : ℕ) → slice_get olds k ≡ Some n → n < nodes old)
    → placed new (twin_in (λ n. number == n) olds news) ≡ twin_in (bytes_eq (place_numbered number old)) (map (λ n. place_numbered n old) olds) (map (λ n. place_numbered n new) news)
placed_twin old new olds news number there within =
    let f : ℕ → List ℕ = λ n. place_numbered n new in
    let kind = none_or_many news in
    let same : Bool = length olds == length news in
    placed_found new kind (if same then option_and_then (slice_get news) (position (λ n. number == n) olds) else None)
    ∙ ap (found_or kind) (sym (picked f news same (position (λ n. number == n) olds)))
    ∙ ap₂ (λ (k : ConflictKind) (o : Option (List ℕ)). found_or k o) (sym (many_alike f news))
    (ap (λ (o : Option ℕ). if same then option_and_then (slice_get (map f news)) o else None) (sym (position_alike old number olds there within))
    ∙ ap₂ (λ (n m : ℕ). if n == m then option_and_then (slice_get (map f news)) (position (bytes_eq (place_numbered number old)) (map (λ n. place_numbered n old) olds)) else None)
    (sym (length-map olds (λ n. place_numbered n old))) (sym (length-map news f)))

many_kind : (ns : List ℕ) → 0 < length ns → none_or_many ns ≡ ManyTargets
many_kind [] some = absurd (omega (arith, some))
many_kind (n ∷ ns) some = refl

neither : (b : Bool) → let nothing : Option ℕ = None in (if b then nothing else nothing) ≡ nothing
neither true = refl
neither false = refl

module _ (is_it : ℕ → Bool) (olds news : List ℕ) where
  pub twin_none : length news ≡ 0 → twin_in is_it olds news ≡ Err NoTarget
  twin_none none = go news none
    where
      nothing : (b : Bool) (o : Option ℕ) → let none_of : List ℕ = [] in (if b then option_and_then (slice_get none_of) o else None) ≡ None
      nothing false o = refl
      nothing true None = refl
      nothing true (Some k) = refl

      go : (ns : List ℕ) → length ns ≡ 0 → twin_in is_it olds ns ≡ Err NoTarget
      go [] none = ap (found_or NoTarget) (nothing (length olds == 0) (position is_it olds))
      go (n ∷ ns) none = absurd (omega (arith, none))

  pub twin_apart : 0 < length news → (length olds == length news) ≡ false → twin_in is_it olds news ≡ Err ManyTargets
  twin_apart some apart =
      let nothing : Option ℕ = None in
      ap (λ b. found_or (none_or_many news) (if b then option_and_then (slice_get news) (position is_it olds) else None)) apart ∙ ap (λ (k : ConflictKind). found_or k nothing) (many_kind news some)

  pub twin_missing : 0 < length news → position is_it olds ≡ None → twin_in is_it olds news ≡ Err ManyTargets
  twin_missing some none =
      let nothing : Option ℕ = None in
      ap (λ (o : Option ℕ). found_or (none_or_many news) (if length olds == length news then option_and_then (slice_get news) o else None)) none
      ∙ ap (found_or (none_or_many news)) (neither (length olds == length news)) ∙ ap (λ (k : ConflictKind). found_or k nothing) (many_kind news some)

  pub twin_there : (k n : ℕ) → (length olds == length news) ≡ true → position is_it olds ≡ Some k → slice_get news k ≡ Some n → twin_in is_it olds news ≡ Ok n
  twin_there k n same here is =
      ap₂ (λ (b : Bool) (o : Option ℕ). found_or (none_or_many news) (if b then option_and_then (slice_get news) o else None)) same here ∙ ap (found_or (none_or_many news)) is

pub twin_within : (is_it : ℕ → Bool) (olds news : List ℕ) (many : ℕ) → ((k n : ℕ) → slice_get news k ≡ Some n → n < many) → IfOk (twin_in is_it olds news) (λ n. n < many)
twin_within is_it olds news many within = go (if length olds == length news then option_and_then (slice_get news) (position is_it olds) else None) (pick (length olds == length news) (position is_it olds))
  where
    at : (k : ℕ) (o : Option ℕ) → slice_get news k ≡ o → IfSome o (λ n. n < many)
    at k None is = tt
    at k (Some n) is = within k n is

    pick : (b : Bool) (o : Option ℕ) → IfSome (if b then option_and_then (slice_get news) o else None) (λ n. n < many)
    pick false o = tt
    pick true None = tt
    pick true (Some k) = at k (slice_get news k) refl

    go : (o : Option ℕ) → IfSome o (λ n. n < many) → IfOk (found_or (none_or_many news) o) (λ n. n < many)
    go None is = tt
    go (Some n) is = is

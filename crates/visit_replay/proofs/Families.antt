-- What is found of a visit's parent.
use Rattle.std.proofs.Common.{◌≡◌, ◌≢◌, ℕ, zero, suc, ◌+◌, ◌==◌, ◌<◌, ◌≤◌, List, [], ◌∷◌, ◌++◌, length, take, zip, Bool, true, false, not, ◌&&◌, nat_lt, if◌then◌else◌, Option, Some, None, option_map, option_and_then, slice_get, slice_set, IfSome, map, filter, inl, inr, refl, sym, ap, subst, ◌∙◌, arith}
use Rattle.std.proofs.lemmas.Bool.Decides.{eqb_tells}
use Rattle.std.proofs.lemmas.Option.{slice_get_within}
use Rattle.std.proofs.lemmas.List.{length-append, length-map, append-nil}
use Rattle.std.proofs.lemmas.List.Elements.{filter-append}
use Rattle.std.proofs.lemmas.List.Sums.{fold-append}
use Rattle.std.proofs.Math.Seq.{take-length}
use Rattle.std.specs.List.{last_or}
use Rattle.visit_replay.proofs.Looking.{fresh_right}
use Rattle.visit_replay.proofs.Places.{some_same, take_suc, zip_at, zip_size, front_at, last_at, last_push, same_places, map_at, some_there}
use Rattle.client_log.specs.declared.visit.Visit.{Visit}
use Rattle.visit_replay.specs.Moved.{is_moved}
use Rattle.visit_replay.specs.Following.{Replayed, last_numbered, parent_among, is_elsewhere, outcome_behind, with_next, behind_parents}
use Rattle.visit_replay.specs.inside.Moves.{IsFresh, IsRight}
use Rattle.visit_replay.specs.inside.Families.{pair_at, AreFresh, AreKnown, Stands, parent_place}
use Rattle.visit_replay.specs.declared.moves.Asked.{Asked}
use Rattle.visit_replay.specs.declared.outcome.Outcome.{Outcome}

-- ---- from visit to visit

-- the first k visits with their outcomes, from what they give by themselves
abbrev pub behind : Option (List (List ℕ)) → List Visit → List Outcome → ℕ → List Replayed
behind finding visits own k = behind_parents finding (take k (zip visits own))

pub record IsOnItsWay (finding : Option (List (List ℕ))) (visits : List Visit) (own : List Outcome) (k : ℕ) (outcomes : List Outcome) (places : ℕ → Option ℕ) (asked : List Asked) : Type 0 where
  pub count : length outcomes ≡ length visits
  pub many : length own ≡ length visits
  pub asked_many : length asked ≡ length visits
  pub few : k ≤ length visits
  pub left : (j : ℕ) → k ≤ j → slice_get outcomes j ≡ slice_get own j
  pub stands : Stands visits outcomes places (behind finding visits own k)
  pub size : length (behind finding visits own k) ≡ k
  pub known : AreKnown finding visits outcomes k asked

module _ (finding : Option (List (List ℕ))) (visits : List Visit) (own : List Outcome) (k : ℕ) (outcomes : List Outcome) (places : ℕ → Option ℕ) (asked : List Asked)
    (way : IsOnItsWay finding visits own k outcomes places asked) (visit : Visit) (mine : Outcome) (at : slice_get visits k ≡ Some visit) (given : slice_get outcomes k ≡ Some mine) where
  abbrev before : List Replayed
  before = behind finding visits own k

  abbrev one : Replayed
  one = (visit, outcome_behind finding (behind finding visits own k) visit mine)

  abbrev more : List Replayed
  more = before ++ one ∷ []

  one_more : behind finding visits own (k + 1) ≡ more
  one_more =
      let next : k + 1 ≡ suc k = omega arith in
      ap (λ n. behind_parents finding (take n (zip visits own))) next
      ∙ ap (behind_parents finding) (take_suc (zip visits own) k (visit, mine) (zip_at visits own k visit mine at (sym (way.left k (omega arith)) ∙ given)))
      ∙ fold-append (with_next finding) [] (take k (zip visits own)) ((visit, mine) ∷ [])

  more_size : length more ≡ k + 1
  more_size = length-append before (one ∷ []) ∙ omega (arith, way.size)

  next_pairs : (outcomes' : List Outcome) → ((j : ℕ) → j ≢ k → slice_get outcomes' j ≡ slice_get outcomes j) → slice_get outcomes' k ≡ Some one.1 → (j : ℕ) → j < length more
      → slice_get more j ≡ pair_at visits outcomes' j
  next_pairs outcomes' others new j below = elim (eqb_tells j k) [
    | inl same ↦
        ap (slice_get more) (same.1 ∙ sym way.size) ∙ last_at before one
        ∙ sym (ap (pair_at visits outcomes') same.1 ∙ ap (option_and_then (λ v. option_map (λ o. (v, o)) (slice_get outcomes' k))) at ∙ ap (option_map (λ o. (visit, o))) new)
    | inr other ↦
        let before_it : j < length before = omega (arith, below, other.1, way.size, more_size) in
        front_at before one j before_it ∙ way.stands.pairs j before_it ∙ ap (λ found. option_and_then (λ v. option_map (λ o. (v, o)) found) (slice_get visits j)) (sym (others j other.1))
  ]

  -- ---- the last of each number

  abbrev has_number : ℕ → Replayed → Bool
  has_number number other = other.0.number == number

  last_split : (number : ℕ) → last_numbered number more ≡ last_or None (filter (has_number number) before ++ (if visit.number == number then one ∷ [] else []))
  last_split number = ap (last_or None) (filter-append (has_number number) before (one ∷ []))

  last_here : (number : ℕ) → (visit.number == number) ≡ true → last_numbered number more ≡ Some one
  last_here number same =
      last_split number ∙ ap (λ b. last_or None (filter (has_number number) before ++ (if b then one ∷ [] else []))) same ∙ last_push None (filter (has_number number) before) one

  last_there : (number : ℕ) → (visit.number == number) ≡ false → last_numbered number more ≡ last_numbered number before
  last_there number other =
      last_split number ∙ ap (λ b. last_or None (filter (has_number number) before ++ (if b then one ∷ [] else []))) other ∙ ap (last_or None) (append-nil (filter (has_number number) before))

  still : (place : Option ℕ) → IfSome place (λ j. j < length before) → option_and_then (slice_get more) place ≡ option_and_then (slice_get before) place
  still None within = refl
  still (Some j) within = front_at before one j within

  weaker : (place : Option ℕ) → IfSome place (λ j. j < length before) → IfSome place (λ j. j < length more)
  weaker None within = tt
  weaker (Some j) within = omega (arith, within, way.size, more_size)

  module _ (places' : ℕ → Option ℕ) (put : (number : ℕ) → places' number ≡ (if visit.number == number then Some k else places number)) where
    put_here : (number : ℕ) → (visit.number == number) ≡ true → places' number ≡ Some k
    put_here number same = put number ∙ ap (λ b. if b then Some k else places number) same

    put_there : (number : ℕ) → (visit.number == number) ≡ false → places' number ≡ places number
    put_there number other = put number ∙ ap (λ b. if b then Some k else places number) other

    next_places : (number : ℕ) → option_and_then (slice_get more) (places' number) ≡ last_numbered number more
    next_places number = elim (eqb_tells visit.number number) [
      | inl same ↦ ap (option_and_then (slice_get more)) (put_here number same.0) ∙ ap (slice_get more) (sym way.size) ∙ last_at before one ∙ sym (last_here number same.0)
      | inr other ↦
          ap (option_and_then (slice_get more)) (put_there number other.0) ∙ still (places number) (way.stands.within number) ∙ way.stands.places_are number ∙ sym (last_there number other.0)
    ]

    next_within : (number : ℕ) → IfSome (places' number) (λ j. j < length more)
    next_within number = elim (eqb_tells visit.number number) [
      | inl same ↦ let last : k < length more = omega (arith, more_size) in subst (λ place. IfSome place (λ j. j < length more)) (sym (put_here number same.0)) last
      | inr other ↦ subst (λ place. IfSome place (λ j. j < length more)) (sym (put_there number other.0)) (weaker (places number) (way.stands.within number))
    ]

  -- ---- what is known

  next_known : (outcomes' : List Outcome) (asked' : List Asked) → AreKnown finding visits outcomes' k asked' → AreKnown finding visits outcomes' (k + 1) asked'
  next_known outcomes' asked' known = record {
    right = λ j v o one below v_at o_at one_at. elim (eqb_tells j k) [
      | inl same ↦ fresh_right finding v o one (known.fresh j one (omega (arith, same.1)) one_at)
      | inr other ↦ known.right j v o one (omega (arith, below, other.1)) v_at o_at one_at
    ];
    fresh = λ j one past one_at. known.fresh j one (omega (arith, past)) one_at;
  }

  pub goes_on : (outcomes' : List Outcome) (places' : ℕ → Option ℕ) (asked' : List Asked) → length outcomes' ≡ length outcomes
      → ((j : ℕ) → j ≢ k → slice_get outcomes' j ≡ slice_get outcomes j) → slice_get outcomes' k ≡ Some (outcome_behind finding (behind finding visits own k) visit mine)
      → ((number : ℕ) → places' number ≡ (if visit.number == number then Some k else places number)) → length asked' ≡ length asked → AreKnown finding visits outcomes' k asked'
      → IsOnItsWay finding visits own (k + 1) outcomes' places' asked'
  goes_on outcomes' places' asked' size others new put many known = record {
    count = size ∙ way.count;
    many = way.many;
    asked_many = many ∙ way.asked_many;
    few = let within = slice_get_within visits k visit at in omega (arith, within);
    left = λ j past. others j (λ same. omega (arith, past, same)) ∙ way.left j (omega (arith, past));
    stands = subst (Stands visits outcomes' places') (sym one_more) (record { pairs = next_pairs outcomes' others new; places_are = next_places places' put; within = next_within places' put });
    size = ap length one_more ∙ more_size;
    known = next_known outcomes' asked' known;
  }

pub same_lists : (finding : Option (List (List ℕ))) (visits : List Visit) (own : List Outcome) (k : ℕ) (places : ℕ → Option ℕ) (outcomes outcomes' : List Outcome) (asked asked' : List Asked) → outcomes ≡ outcomes' → asked ≡ asked'
    → IsOnItsWay finding visits own k outcomes' places asked' → IsOnItsWay finding visits own k outcomes places asked
same_lists finding visits own k places outcomes outcomes' asked asked' same same_asked way =
    subst (λ them. IsOnItsWay finding visits own k them places asked) (sym same) (subst (IsOnItsWay finding visits own k outcomes' places) (sym same_asked) way)

-- ---- whether the parent leads elsewhere

module _ (finding : Option (List (List ℕ))) (visits : List Visit) (outcomes : List Outcome) (places : ℕ → Option ℕ) (before : List Replayed) (stands : Stands visits outcomes places before) (visit : Visit) where
  pub elsewhere_some : (place : ℕ) (v : Visit) (o : Outcome) (answer : Bool) → parent_place places visit ≡ Some place → slice_get visits place ≡ Some v → slice_get outcomes place ≡ Some o
      → answer ≡ is_moved finding v o visit.from → answer ≡ is_elsewhere finding visit (parent_among before visit)
  elsewhere_some place v o answer is v_at o_at told = go (nat_lt visit.parent visit.number) refl (not (visit.from == 0)) is
    where
      found : places visit.parent ≡ Some place → last_numbered visit.parent before ≡ Some (v, o)
      found at =
          let below : place < length before = subst (λ p. IfSome p (λ j. j < length before)) at (stands.within visit.parent) in
          sym (stands.places_are visit.parent) ∙ ap (option_and_then (slice_get before)) at ∙ stands.pairs place below
          ∙ ap (option_and_then (λ w. option_map (λ p. (w, p)) (slice_get outcomes place))) v_at ∙ ap (option_map (λ p. (v, p))) o_at

      go : (less : Bool) → nat_lt visit.parent visit.number ≡ less → (some : Bool) → (if less && some then places visit.parent else None) ≡ Some place → answer ≡ is_elsewhere finding visit (parent_among before visit)
      go true less true at = told ∙ sym (ap (is_elsewhere finding visit) (ap (λ b. if b then last_numbered visit.parent before else None) less ∙ found at))
      go true less false at = cc
      go false less some at = cc

  pub elsewhere_none : parent_place places visit ≡ None → false ≡ is_elsewhere finding visit (parent_among before visit)
  elsewhere_none is = go (nat_lt visit.parent visit.number) refl (visit.from == 0) refl is
    where
      none_stays : (visit.from == 0) ≡ true → (parent : Option Replayed) → false ≡ is_elsewhere finding visit parent
      none_stays no_link None = refl
      none_stays no_link (Some them) = rw no_link refl

      go : (less : Bool) → nat_lt visit.parent visit.number ≡ less → (no_link : Bool) → (visit.from == 0) ≡ no_link → (if less && not no_link then places visit.parent else None) ≡ None
          → false ≡ is_elsewhere finding visit (parent_among before visit)
      go true less true is_none at = none_stays is_none (parent_among before visit)
      go true less false is_none at =
          sym (ap (is_elsewhere finding visit) (ap (λ b. if b then last_numbered visit.parent before else None) less ∙ sym (stands.places_are visit.parent) ∙ ap (option_and_then (slice_get before)) at))
      go false less no_link is_none at = sym (ap (is_elsewhere finding visit) (ap (λ b. if b then last_numbered visit.parent before else None) less))

-- the parent stands before it
pub parent_within : (places : ℕ → Option ℕ) (visit : Visit) (place k : ℕ) → ((number : ℕ) → IfSome (places number) (λ j. j < k)) → parent_place places visit ≡ Some place → place < k
parent_within places visit place k within is = go (nat_lt visit.parent visit.number) (not (visit.from == 0)) is
  where
    go : (less link : Bool) → (if less && link then places visit.parent else None) ≡ Some place → place < k
    go true true at = subst (λ p. IfSome p (λ j. j < k)) at (within visit.parent)
    go true false at = cc
    go false link at = cc

set_here : {A : Type 0} (xs : List A) (i : ℕ) (a b : A) → slice_get (slice_set xs i a) i ≡ Some b → a ≡ b
set_here [] i a b is = cc
set_here (x ∷ xs) zero a b is = cc
set_here (x ∷ xs) (suc i) a b is = set_here xs i a b is

set_there : {A : Type 0} (xs : List A) (i j : ℕ) (a : A) → j ≢ i → slice_get (slice_set xs i a) j ≡ slice_get xs j
set_there [] i j a other = refl
set_there (x ∷ xs) zero zero a other = absurd (other refl)
set_there (x ∷ xs) zero (suc j) a other = refl
set_there (x ∷ xs) (suc i) zero a other = refl
set_there (x ∷ xs) (suc i) (suc j) a other = set_there xs i j a (λ same. other (ap suc same))

-- what is known of one visit changed
pub known_set : (finding : Option (List (List ℕ))) (visits : List Visit) (outcomes : List Outcome) (k place : ℕ) (asked : List Asked) (one : Asked) → place < k → AreKnown finding visits outcomes k asked
    → ((v : Visit) (o : Outcome) → slice_get visits place ≡ Some v → slice_get outcomes place ≡ Some o → IsRight finding v o one) → AreKnown finding visits outcomes k (slice_set asked place one)
known_set finding visits outcomes k place asked one below known right = record {
  right = λ j v o other less v_at o_at at. elim (eqb_tells j place) [
    | inl same ↦
        subst (IsRight finding v o) (set_here asked place one other (ap (slice_get (slice_set asked place one)) (sym same.1) ∙ at)) (right v o (ap (slice_get visits) (sym same.1) ∙ v_at) (ap (slice_get outcomes) (sym same.1) ∙ o_at))
    | inr apart ↦ known.right j v o other less v_at o_at (sym (set_there asked place j one apart.1) ∙ at)
  ];
  fresh = λ j other past at. known.fresh j other past (sym (set_there asked place j one (λ same. omega (arith, same, past, below))) ∙ at);
}

-- ---- what is asked for before

pub fresh_push : (k : ℕ) (all : List Asked) (one : Asked) → AreFresh k all → IsFresh one → AreFresh (k + 1) (all ++ one ∷ [])
fresh_push k all one fresh is = record {
  many = length-append all (one ∷ []) ∙ omega (arith, fresh.many);
  fresh = λ j other at.
      let within = slice_get_within (all ++ one ∷ []) j other at in
      elim (eqb_tells j k) [
        | inl same ↦ subst IsFresh (some_same one other (sym (last_at all one) ∙ ap (slice_get (all ++ one ∷ [])) (fresh.many ∙ sym same.1) ∙ at)) is
        | inr apart ↦
            let below : j < length all = omega (arith, within, length-append all (one ∷ []), fresh.many, apart.1) in
            fresh.fresh j other (sym (front_at all one j below) ∙ at)
      ];
}

pub within_more : (k number own : ℕ) (places places' : ℕ → Option ℕ) → ((n : ℕ) → IfSome (places n) (λ j. j < k)) → ((n : ℕ) → places' n ≡ (if own == n then Some k else places n)) → IfSome (places' number) (λ j. j < k + 1)
within_more k number own places places' within put = elim (eqb_tells own number) [
  | inl same ↦ let last : k < k + 1 = omega arith in subst (λ place. IfSome place (λ j. j < k + 1)) (sym (put number ∙ ap (λ b. if b then Some k else places number) same.0)) last
  | inr other ↦ subst (λ place. IfSome place (λ j. j < k + 1)) (sym (put number ∙ ap (λ b. if b then Some k else places number) other.0)) (weaker_place (places number) (within number))
]
  where
    weaker_place : (place : Option ℕ) → IfSome place (λ j. j < k) → IfSome place (λ j. j < k + 1)
    weaker_place None h = tt
    weaker_place (Some j) h = omega (arith, h)

-- ---- all of them

followed_at : (visits : List Visit) (outcomes : List Outcome) (before : List Replayed) → length before ≡ length outcomes → length outcomes ≡ length visits
    → ((j : ℕ) → j < length before → slice_get before j ≡ pair_at visits outcomes j) → outcomes ≡ map (λ one. one.1) before
followed_at visits outcomes before size many pairs = same_places outcomes (map (λ one. one.1) before) (sym size ∙ sym (length-map before (λ one. one.1))) (λ j below.
    let (visit, at) = some_there visits j (omega (arith, below, many)) in
    let (outcome, given) = some_there outcomes j below in
    let pair = pairs j (omega (arith, below, size)) ∙ ap (option_and_then (λ v. option_map (λ o. (v, o)) (slice_get outcomes j))) at ∙ ap (option_map (λ o. (visit, o))) given in
    given ∙ sym (map_at (λ one. one.1) before j (visit, outcome) pair))

pub all_followed : (finding : Option (List (List ℕ))) (visits : List Visit) (own : List Outcome) (outcomes : List Outcome) (places : ℕ → Option ℕ) (asked : List Asked) (k : ℕ)
    → IsOnItsWay finding visits own k outcomes places asked → k ≡ length visits → outcomes ≡ map (λ one. one.1) (behind_parents finding (zip visits own))
all_followed finding visits own outcomes places asked k way whole =
    followed_at visits outcomes (behind finding visits own k) (way.size ∙ whole ∙ sym way.count) way.count way.stands.pairs
    ∙ ap (λ pairs. map (λ one. one.1) (behind_parents finding pairs)) (take_all (zip visits own) k (zip_many visits own k way.many whole))
  where
    take_all : {A : Type 0} (xs : List A) (n : ℕ) → length xs ≡ n → take n xs ≡ xs
    take_all xs n is = ap (λ m. take m xs) (sym is) ∙ take-length xs

    zip_many : (vs : List Visit) (os : List Outcome) (n : ℕ) → length os ≡ length vs → n ≡ length vs → length (zip vs os) ≡ n
    zip_many vs os n many whole' = zip_size vs os many ∙ sym whole'

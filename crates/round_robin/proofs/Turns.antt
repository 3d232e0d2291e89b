-- Whose turn it is as items go round, and what each hand then has.
use Rattle.std.proofs.Common.{◌≡◌, ◌≢◌, ℕ, zero, suc, ◌+◌, ◌-◌, ◌<◌, ◌≤◌, ◌⊎◌, inl, inr, Bool, true, false, ◌==◌, true≢false}
use Rattle.std.proofs.Common.{List, [], ◌∷◌, ◌++◌, length, take, drop, set, get_or, reverse, replicate, slice_get, Some, Vec}
use Rattle.std.proofs.Common.{refl, sym, ap, subst, ◌∙◌, arith, append_assoc, append-nil}
use Rattle.std.proofs.Math.Seq.{take-append_seam}
use Rattle.std.proofs.lemmas.Bool.Decides.{nat_tests}
use Rattle.std.proofs.lemmas.Grind.{common_steps}
use Rattle.std.proofs.lemmas.List.{length-append, length-reverse, reverse-append, reverse-reverse}
use Rattle.std.proofs.lemmas.Option.{gets, same_Some, slice_get_within, slice_get-get_or}
use Rattle.std.specs.Global.{Global}
use Rattle.round_robin.specs.Dealt.{every, given}

-- the hand behind that one
pub record IsNext (hands at next : ℕ) : Type 0 where
  pub within : next < hands
  pub round : (next ≡ at + 1) ⊎ (next + hands ≡ at + 1)

pub is_next : (hands size at next : ℕ) → size ≡ hands → next < size → (next ≡ at + 1) ⊎ (next + size ≡ at + 1) → IsNext hands at next
is_next hands size at next same within round = subst (λ n. IsNext n at next) same (record { within = within; round = round })

-- that hand's turn comes behind so many others, where it is that one's
pub record IsTurn (hands at hand n : ℕ) : Type 0 where
  pub within : hand < hands
  pub few : n < hands
  pub round : (hand ≡ at + n) ⊎ (hand + hands ≡ at + n)

turn_now : (hands at hand : ℕ) → hand < hands → hand ≡ at → IsTurn hands at hand 0
turn_now hands at hand within same = record { within = within; few = omega (arith, within); round = inl (omega (arith, same)) }

-- at the start each waits for those before it
turn_first : (hands hand n : ℕ) → IsTurn hands 0 hand n → n ≡ hand
turn_first hands hand n turn = grind (arith, turn.within, turn.few, turn.round)

turn_of : (hands at hand : ℕ) → at < hands → hand < hands → (n : ℕ) × IsTurn hands at hand n
turn_of hands at hand here there = by (at - hand) refl
  where
    by : (back : ℕ) → back ≡ at - hand → (n : ℕ) × IsTurn hands at hand n
    by zero is = (hand - at, record { within = there; few = omega (arith, there); round = inl (omega (arith, is)) })
    by (suc back) is = (hand + hands - at, record { within = there; few = omega (arith, is, here); round = inr (omega (arith, is, here)) })

-- whose turn it was waits longest, and each other one less
module _ (hands at next hand n : ℕ) (within : at < hands) (following : IsNext hands at next) (turn : IsTurn hands next hand n) where
  turn_last : hand ≡ at → n ≡ hands - 1
  turn_last same = grind (arith, same, within, following.within, following.round, turn.few, turn.round)

  turn_sooner : hand ≢ at → IsTurn hands at hand (suc n)
  turn_sooner other = record {
    within = turn.within;
    few = grind (arith, within, following.within, following.round, turn.few, turn.round, other);
    round = grind (arith, within, following.within, following.round, turn.few, turn.round, other);
  }

-- ---- one hand of the list is written

in_set : {X : Type 0} (xs : List X) (k j : ℕ) (y x : X) → k < length xs → slice_get (set xs k y) j ≡ Some x
    → ((j ≡ k) × (x ≡ y)) ⊎ ((j ≢ k) × (slice_get xs j ≡ Some x))
in_set xs k j y x within at = grind (arith, common_steps, gets)

-- each comes from the one in that place before
abbrev pub EachFrom : {X : Type 0} → (ℕ → X → X → Type 0) → List X → List X → Type 0
EachFrom {X} P before after = (k : ℕ) (x : X) → slice_get after k ≡ Some x → (b : X) × (slice_get before k ≡ Some b) × P k b x

each_set : {X : Type 0} (P : ℕ → X → X → Type 0) (xs : List X) (k : ℕ) (b y : X) → k < length xs → slice_get xs k ≡ Some b
    → ((j : ℕ) → j ≡ k → P j b y) → ((j : ℕ) (x : X) → j ≢ k → P j x x) → EachFrom P xs (set xs k y)
each_set {X = X} P xs k b y within here new others j x at = by (in_set xs k j y x within at)
  where
    by : ((j ≡ k) × (x ≡ y)) ⊎ ((j ≢ k) × (slice_get xs j ≡ Some x)) → (w : X) × (slice_get xs j ≡ Some w) × P j w x
    by (inl (same, is)) = (b, ap (slice_get xs) same ∙ here, subst (P j b) (sym is) (new j same))
    by (inr (other, old)) = (x, old, others j x other)

-- what holds of each, and of one behind
pub each_push : {X : Type 0} (P : X → Type 0) (xs : List X) (y : X) → ((k : ℕ) (x : X) → slice_get xs k ≡ Some x → P x) → P y
    → (k : ℕ) (x : X) → slice_get (xs ++ y ∷ []) k ≡ Some x → P x
each_push P xs y each last k x at = grind (arith, common_steps, gets, each k x)

-- what was lent as a slice of all items is what they are
pub written : {X : Type 0} (xs new : List X) (n : ℕ) → n ≡ length new → take n (new ++ drop (length new) xs) ≡ new
written xs new n is = ap (λ m. take m (new ++ drop (length new) xs)) is ∙ take-append_seam new (drop (length new) xs)

abbrev Hand : Type 0 → Type 0
Hand A = Vec A Global

-- how many of so many items are that hand's whose turn is then
abbrev share : (hands n left : ℕ) → ℕ
share hands n left = length (every {A = ℕ} hands n (replicate left 0))

module _ {A : Type 0} where
  no_items : (xs : List A) → length xs ≡ 0 → xs ≡ []
  no_items xs none = grind (arith, common_steps)

  -- ---- where an item goes

  given_same : (at hand : ℕ) (item : A) → hand ≡ at → given at hand item ≡ item ∷ []
  given_same at hand item same = grind (arith, nat_tests, same)

  given_other : (at hand : ℕ) (item : A) → hand ≢ at → given at hand item ≡ []
  given_other at hand item other = grind (arith, nat_tests, other)

  -- it is that hand's, whose turn then comes last, or another's
  abbrev Went : (hands at hand n : ℕ) → A → Type 0
  Went hands at hand n item =
      ((n ≡ hands - 1) × IsTurn hands at hand 0 × (given at hand item ≡ item ∷ [])) ⊎ (IsTurn hands at hand (suc n) × (given at hand item ≡ []))

  went : (hands at next hand n : ℕ) (item : A) → at < hands → IsNext hands at next → IsTurn hands next hand n → Went hands at hand n item
  went hands at next hand n item within following turn = by (hand == at) refl
    where
      by : (b : Bool) → (hand == at) ≡ b → Went hands at hand n item
      by true is =
          let same : hand ≡ at = grind (arith, nat_tests, is) in
          inl (turn_last hands at next hand n within following turn same, turn_now hands at hand turn.within same, given_same at hand item same)
      by false is =
          let other : hand ≢ at = λ same. true≢false (sym (grind (arith, nat_tests, same)) ∙ is) in
          inr (turn_sooner hands at next hand n within following turn other, given_other at hand item other)

  -- each of these hands is one of those, with the item behind if it went there
  abbrev pub HasGiven : ℕ → A → List (Hand A) → List (Hand A) → Type 0
  HasGiven at item before after = EachFrom (λ hand b held. held.items ≡ b.items ++ given at hand item) before after

  -- the other way round
  abbrev pub HasTaken : ℕ → A → List (Hand A) → List (Hand A) → Type 0
  HasTaken at item before after = EachFrom (λ hand b held. b.items ≡ held.items ++ given at hand item) before after

  pub given_set : (hands : List (Hand A)) (at : ℕ) (b y : Hand A) (item : A) → at < length hands → slice_get hands at ≡ Some b
      → y.items ≡ b.items ++ item ∷ [] → HasGiven at item hands (set hands at y)
  given_set hands at b y item within here is =
      each_set (λ hand b held. held.items ≡ b.items ++ given at hand item) hands at b y within here
      (λ hand same. is ∙ ap (λ xs. b.items ++ xs) (sym (given_same at hand item same)))
      (λ hand held other. sym (append-nil held.items) ∙ ap (λ xs. held.items ++ xs) (sym (given_other at hand item other)))

  pub taken_set : (hands : List (Hand A)) (at : ℕ) (b y : Hand A) (item : A) → at < length hands → slice_get hands at ≡ Some b
      → b.items ≡ y.items ++ item ∷ [] → HasTaken at item hands (set hands at y)
  taken_set hands at b y item within here is =
      each_set (λ hand b held. b.items ≡ held.items ++ given at hand item) hands at b y within here
      (λ hand same. is ∙ ap (λ xs. y.items ++ xs) (sym (given_same at hand item same)))
      (λ hand held other. sym (append-nil held.items) ∙ ap (λ xs. held.items ++ xs) (sym (given_other at hand item other)))

  -- ---- dealing

  -- what each hand has, and its share of what is still to be dealt, make up its share of all
  pub record IsDealing (hands at : ℕ) (dealt : List (Hand A)) (rest all : List A) : Type 0 where
    pub each : (hand n : ℕ) (held : Hand A) → slice_get dealt hand ≡ Some held → IsTurn hands at hand n
        → held.items ++ every hands n rest ≡ every hands hand all

  pub dealt_more : (hands at next : ℕ) (before after : List (Hand A)) (item : A) (rest all : List A) → at < hands → IsNext hands at next
      → HasGiven at item before after → IsDealing hands at before (item ∷ rest) all → IsDealing hands next after rest all
  dealt_more hands at next before after item rest all within following gives dealing = record { each = each }
    where
      each : (hand n : ℕ) (held : Hand A) → slice_get after hand ≡ Some held → IsTurn hands next hand n
          → held.items ++ every hands n rest ≡ every hands hand all
      each hand n held there turn = by (went hands at next hand n item within following turn)
        where
          b : Hand A
          b = (gives hand held there).0

          was : slice_get before hand ≡ Some b
          was = (gives hand held there).1

          items : (xs : List A) → given at hand item ≡ xs → held.items ≡ b.items ++ xs
          items xs is = (gives hand held there).2 ∙ ap (λ ys. b.items ++ ys) is

          by : Went hands at hand n item → held.items ++ every hands n rest ≡ every hands hand all
          by (inl (last, now, is)) =
              ap (λ xs. xs ++ every hands n rest) (items (item ∷ []) is) ∙ append_assoc b.items (item ∷ []) (every hands n rest)
              ∙ ap (λ k. b.items ++ item ∷ every hands k rest) last ∙ dealing.each hand 0 b was now
          by (inr (sooner, is)) =
              ap (λ xs. xs ++ every hands n rest) (items [] is ∙ append-nil b.items) ∙ dealing.each hand (suc n) b was sooner

  pub dealt_all : (hands at : ℕ) (dealt : List (Hand A)) (rest all : List A) → at < hands → length dealt ≡ hands → length rest ≡ 0
      → IsDealing hands at dealt rest all
      → (hand : ℕ) (held : Hand A) → slice_get dealt hand ≡ Some held → held.items ≡ every hands hand all
  dealt_all hands at dealt rest all within count none dealing hand held there =
      let turn = turn_of hands at hand within (subst (λ n. hand < n) count (slice_get_within dealt hand held there)) in
      sym (append-nil held.items) ∙ ap (λ xs. held.items ++ every hands turn.0 xs) (sym (no_items rest none))
      ∙ dealing.each hand turn.0 held there turn.1

  -- ---- the other way about

  -- each of these hands is one of those the other way about
  abbrev pub IsTurned : List (Hand A) → List (Hand A) → Type 0
  IsTurned first now = EachFrom (λ hand b held. held.items ≡ reverse b.items) first now

  abbrev IsTurnedBelow : ℕ → ℕ → Hand A → Hand A → Type 0
  IsTurnedBelow k hand b held = (hand < k → held.items ≡ reverse b.items) × (k ≤ hand → held.items ≡ b.items)

  -- so are those before k, and the others as they were
  pub record IsTurning (k : ℕ) (first now : List (Hand A)) : Type 0 where
    pub each : EachFrom (IsTurnedBelow k) first now

  pub turned_none : (first : List (Hand A)) → IsTurning 0 first first
  turned_none first = record { each = λ hand held there. (held, there, ((λ less. absurd (omega (arith, less))), (λ more. refl))) }

  pub turned_more : (k : ℕ) (first now : List (Hand A)) (b y : Hand A) → k < length now → slice_get now k ≡ Some b → y.items ≡ reverse b.items
      → IsTurning k first now → IsTurning (k + 1) first (set now k y)
  turned_more k first now b y within here is before = record { each = λ hand held there. by hand held (in_set now k hand y held within there) }
    where
      by : (hand : ℕ) (held : Hand A) → ((hand ≡ k) × (held ≡ y)) ⊎ ((hand ≢ k) × (slice_get now hand ≡ Some held))
          → (b : Hand A) × (slice_get first hand ≡ Some b) × IsTurnedBelow (k + 1) hand b held
      by hand held (inl (same, new)) =
          let was = before.each k b here in (
            was.0,
            ap (slice_get first) same ∙ was.1,
            ((λ less. ap (λ v. v.items) new ∙ is ∙ ap reverse (was.2.1 (omega arith))), (λ more. absurd (omega (arith, more, same)))),
          )
      by hand held (inr (other, old)) =
          let was = before.each hand held old in
          (was.0, was.1, ((λ less. was.2.0 (omega (arith, less, other))), (λ more. was.2.1 (omega (arith, more)))))

  pub turned_all : (k : ℕ) (first now : List (Hand A)) → length now ≤ k → IsTurning k first now → IsTurned first now
  turned_all k first now all done hand held there =
      let was = done.each hand held there in
      let within : hand < length now = slice_get_within now hand held there in
      (was.0, was.1, was.2.0 (omega (arith, within, all)))

  -- ---- collecting

  -- a hand stands last first: with its share of whatever comes behind what is done, it makes up its share of all
  pub record IsCollecting (hands at : ℕ) (first now : List (Hand A)) (done : List A) (left : ℕ) : Type 0 where
    pub each : (hand n : ℕ) (held own : Hand A) → slice_get now hand ≡ Some held → slice_get first hand ≡ Some own → IsTurn hands at hand n
        → (rest : List A) → reverse held.items ≡ every hands n rest → own.items ≡ every hands hand (done ++ rest)
    pub shares : (hand n : ℕ) (held : Hand A) → slice_get now hand ≡ Some held → IsTurn hands at hand n → length held.items ≡ share hands n left

  pub collected_none : (hands count : ℕ) (first now : List (Hand A)) → IsTurned first now
      → ((hand : ℕ) (held : Hand A) → slice_get first hand ≡ Some held → length held.items ≡ share hands hand count)
      → IsCollecting hands 0 first now [] count
  collected_none hands count first now turned shares = record {
    each = λ hand n held own there here turn rest is.
        let was = turned hand held there in
        let same : was.0 ≡ own = same_Some was.0 own (sym was.1 ∙ here) in
        sym (reverse-reverse own.items) ∙ ap (λ v. reverse (reverse v.items)) (sym same) ∙ ap reverse (sym was.2) ∙ is
        ∙ ap (λ k. every hands k rest) (turn_first hands hand n turn);
    shares = λ hand n held there turn.
        let was = turned hand held there in
        ap length was.2 ∙ length-reverse was.0.items ∙ shares hand was.0 was.1
        ∙ ap (λ k. share hands k count) (sym (turn_first hands hand n turn));
  }

  pub collected_some : (hands at : ℕ) (first now : List (Hand A)) (done : List A) (whole left : ℕ) → at < hands → whole ≡ suc left
      → IsCollecting hands at first now done whole → (held : Hand A) → slice_get now at ≡ Some held → 0 < length held.items
  collected_some hands at first now done whole left within more collecting held there =
      let size : length held.items ≡ share hands 0 (suc left) =
      collecting.shares at 0 held there (turn_now hands at at within refl) ∙ ap (share hands 0) more in
      omega (arith, size)

  pub collected_more : (hands at next : ℕ) (first before after : List (Hand A)) (item : A) (done : List A) (whole left : ℕ)
      → at < hands → IsNext hands at next → whole ≡ suc left → HasTaken at item before after
      → IsCollecting hands at first before done whole → IsCollecting hands next first after (done ++ item ∷ []) left
  collected_more hands at next first before after item done whole left within following more taken collecting = record {
    each = λ hand n held own there here turn rest is.
        each hand n held own there here rest is (went hands at next hand n item within following turn)
        ∙ ap (every hands hand) (sym (append_assoc done (item ∷ []) rest));
    shares = λ hand n held there turn. shares hand n held there (went hands at next hand n item within following turn);
  }
    where
      items : (hand : ℕ) (held : Hand A) (xs : List A) (there : slice_get after hand ≡ Some held) → given at hand item ≡ xs
          → (taken hand held there).0.items ≡ held.items ++ xs
      items hand held xs there is = (taken hand held there).2 ∙ ap (λ ys. held.items ++ ys) is

      each : (hand n : ℕ) (held own : Hand A) → slice_get after hand ≡ Some held → slice_get first hand ≡ Some own
          → (rest : List A) → reverse held.items ≡ every hands n rest → Went hands at hand n item → own.items ≡ every hands hand (done ++ item ∷ rest)
      each hand n held own there here rest is (inl (last, now, to)) =
          let was = taken hand held there in
          collecting.each hand 0 was.0 own was.1 here now (item ∷ rest)
          (ap reverse (items hand held (item ∷ []) there to) ∙ reverse-append held.items (item ∷ [])
          ∙ ap (λ xs. item ∷ xs) (is ∙ ap (λ k. every hands k rest) last))
      each hand n held own there here rest is (inr (sooner, to)) =
          let was = taken hand held there in
          collecting.each hand (suc n) was.0 own was.1 here sooner (item ∷ rest)
          (ap reverse (items hand held [] there to ∙ append-nil held.items) ∙ is)

      shares : (hand n : ℕ) (held : Hand A) → slice_get after hand ≡ Some held → Went hands at hand n item → length held.items ≡ share hands n left
      shares hand n held there (inl (last, now, to)) =
          let was = taken hand held there in
          let size : length was.0.items ≡ length held.items + 1 =
          ap length (items hand held (item ∷ []) there to) ∙ length-append held.items (item ∷ []) in
          let whole_share : length was.0.items ≡ suc (share hands (hands - 1) left) =
          collecting.shares hand 0 was.0 was.1 now ∙ ap (share hands 0) more in
          let less : length held.items ≡ share hands (hands - 1) left = omega (arith, size, whole_share) in
          less ∙ ap (λ k. share hands k left) (sym last)
      shares hand n held there (inr (sooner, to)) =
          let was = taken hand held there in
          ap length (sym (items hand held [] there to ∙ append-nil held.items)) ∙ collecting.shares hand (suc n) was.0 was.1 sooner
          ∙ ap (share hands (suc n)) more

  -- the same of what equals these
  pub collected_so : {hands at : ℕ} {first : List (Hand A)} (now before : List (Hand A)) (done items : List A) (left more : ℕ)
      → now ≡ before → done ≡ items → left ≡ more → IsCollecting hands at first before items more → IsCollecting hands at first now done left
  collected_so {hands = hands} {at = at} {first = first} now before done items left more same_now same_done same_left collecting =
      subst (λ hs. IsCollecting hands at first hs done left) (sym same_now)
      (subst (λ xs. IsCollecting hands at first before xs left) (sym same_done)
      (subst (λ n. IsCollecting hands at first before items n) (sym same_left) collecting))

  pub collected_all : (hands at : ℕ) (first now : List (Hand A)) (done : List A) (left : ℕ) → at < hands → length first ≡ hands → length now ≡ hands
      → left ≡ 0 → IsCollecting hands at first now done left
      → (hand : ℕ) (own : Hand A) → slice_get first hand ≡ Some own → own.items ≡ every hands hand done
  collected_all hands at first now done left within count same_count none collecting hand own here =
      let inside : hand < hands = subst (λ n. hand < n) count (slice_get_within first hand own here) in
      let turn = turn_of hands at hand within inside in
      let held : Hand A = get_or now hand own in
      let there : slice_get now hand ≡ Some held = slice_get-get_or now hand own (subst (λ n. hand < n) (sym same_count) inside) in
      let empty : held.items ≡ [] =
      no_items held.items (collecting.shares hand turn.0 held there turn.1 ∙ ap (share hands turn.0) none) in
      collecting.each hand turn.0 held own there here turn.1 [] (ap reverse empty) ∙ ap (every hands hand) (append-nil done)

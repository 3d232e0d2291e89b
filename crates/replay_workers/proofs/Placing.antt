-- Outcomes that come to their places, share by share.
use Rattle.std.proofs.Common.{◌≡◌, ◌≢◌, ℕ, zero, suc, ◌+◌, ◌<◌, ◌≤◌, ◌==◌, List, [], ◌∷◌, ◌++◌, length, map, zip, set, cond, All, IfOk, Result, Ok, Err, Some, slice_get, inl, inr, refl, sym, ap, subst, ◌∙◌, arith}
use Rattle.std.proofs.lemmas.Bool.Decides.{eqb_tells, leb_tells}
use Rattle.std.proofs.lemmas.List.{map-append, length-set, get_or-set_same}
use Rattle.std.proofs.lemmas.List.Elements.{All-pop, All-weaker}
use Rattle.std.proofs.lemmas.List.Sums.{sum_by_push}
use Rattle.std.proofs.lemmas.Option.{slice_get_within, slice_get-get_or}
use Rattle.std.specs.List.{sum_by}
use Rattle.visit_replay.proofs.Places.{same_places}
use Rattle.visit_replay.specs.declared.outcome.Outcome.{Outcome}
use Rattle.replay_workers.proofs.Divided.{each_drawn}
use Rattle.replay_workers.proofs.Lists.{once_else}
use Rattle.replay_workers.specs.Draws.{Pool, Draws, times, fresh_seat, AreClaimed}
use Rattle.replay_workers.specs.Work.{done_numbers, AreOf, HasDrawn}
use Rattle.replay_workers.specs.inside.Shares.{AreBack, IsPlaced, StandsOrComes}
use Rattle.replay_workers.specs.declared.share.Done.{Done}

-- what stands in a list after a change
set_here : {A : Type 0} (xs : List A) (k : ℕ) (x : A) → k < length xs → slice_get (set xs k x) k ≡ Some x
set_here xs k x below =
    slice_get-get_or (set xs k x) k x (omega (arith, below, length-set xs k x)) ∙ ap (λ y. Some y) (get_or-set_same xs k x x below)

set_there : {A : Type 0} (xs : List A) (k : ℕ) (x : A) (j : ℕ) → j ≢ k → slice_get (set xs k x) j ≡ slice_get xs j
set_there [] k x j other = refl
set_there (y ∷ xs) zero x zero other = absurd (other refl)
set_there (y ∷ xs) zero x (suc j) other = refl
set_there (y ∷ xs) (suc k) x zero other = refl
set_there (y ∷ xs) (suc k) x (suc j) other = set_there xs k x j (λ same. other (ap suc same))

pub times_push : (x : ℕ) (drawn : List ℕ) (n : ℕ) → times x (drawn ++ n ∷ []) ≡ times x drawn + cond {A = ℕ} (n == x) 1 0
times_push x drawn n = sum_by_push (λ y. cond {A = ℕ} (y == x) 1 0) drawn n

-- one outcome comes to its place
pub one_placed : (own all : List Outcome) (x : ℕ) (rest : List Done) (one : Done) → one.number < length all
    → slice_get own one.number ≡ Some one.outcome → StandsOrComes own all (rest ++ one ∷ []) x → StandsOrComes own (set all one.number one.outcome) rest x
one_placed own all x rest one below right stood = elim (eqb_tells one.number x) [
  | inl same ↦ inl (ap (slice_get (set all one.number one.outcome)) (sym same.1)
      ∙ set_here all one.number one.outcome below ∙ sym right ∙ ap (slice_get own) same.1)
  | inr other ↦ elim stood [
    | inl stands ↦ inl (set_there all one.number one.outcome x (λ is. other.1 (sym is)) ∙ stands)
    | inr comes ↦
        let split = ap (times x) (map-append (λ o. o.number) rest (one ∷ [])) ∙ times_push x (done_numbers rest) one.number in
        let none = once_else one.number x other.1 in
        inr (omega (arith, comes, split, none))
  ]
]

-- ---- the seats that came back

module _ (own : List Outcome) (pool : Pool) (count : pool.count ≡ length own) (all new : List Outcome) (seats : List Draws)
    (seat : Draws) (done : List Done) (worked : HasDrawn own (fresh_seat pool) seat done)
    (placed : IsPlaced own seats all) (put : (x : ℕ) → StandsOrComes own all done x → slice_get new x ≡ slice_get own x) where
  mine : (x : ℕ) → x < length own → 1 ≤ times x seat.drawn → 1 ≤ times x (done_numbers done)
  mine x below some =
      let split = ap (times x) worked.drawn ∙ times_push x (done_numbers done) worked.last in
      let past : pool.count ≤ worked.last = worked.past in
      let none = once_else worked.last x (λ same. omega (arith, same, below, past, count)) in
      omega (arith, split, none, some)

  pub more_placed : IsPlaced own (seats ++ seat ∷ []) new
  more_placed x below some =
      let split = sum_by_push (λ (s : Draws). times x s.drawn) seats seat in
      elim (leb_tells 1 (sum_by (λ s. times x s.drawn) seats)) [
        | inl stood ↦ put x (inl (placed x below stood.1))
        | inr none ↦ put x (inr (mine x below (omega (arith, split, some, none.1))))
      ]

-- the numbers of a share are those of visits
pub worked_within : (own : List Outcome) (done : List Done) (n : ℕ) → AreOf own done → length own ≡ n → All (λ one. one.number < n) done
worked_within own done n are size =
    All-weaker (λ (one : Done). slice_get own one.number ≡ Some one.outcome) (λ one. one.number < n)
    (λ one at. let within = slice_get_within own one.number one.outcome at in omega (arith, within, size)) done are

pub front_all : {A : Type 0} (P : A → Type 0) (rest : List A) (one : A) → All P (rest ++ one ∷ []) → All P rest × P one
front_all P rest one all = All-pop P (rest ++ one ∷ []) rest (Some one) refl all

module _ (all : List Outcome) (done rest : List Done) (one : Done) (new : Outcome) (split : done ≡ rest ++ one ∷ [])
    (new_is : new ≡ one.outcome) (within : All (λ (d : Done). d.number < length all) done) where
  both : All (λ (d : Done). d.number < length all) rest × (one.number < length all)
  both = front_all (λ (d : Done). d.number < length all) rest one (subst (All (λ (d : Done). d.number < length all)) split within)

  pub next_within : All (λ (d : Done). d.number < length (set all one.number new)) rest
  next_within = subst (λ n. All (λ (d : Done). d.number < n) rest) (sym (length-set all one.number new)) both.0

  pub next_stands : (own : List Outcome) (x : ℕ) → AreOf own done → StandsOrComes own all done x
      → AreOf own rest × StandsOrComes own (set all one.number new) rest x
  next_stands own x are stood =
      let parts = front_all (λ (d : Done). slice_get own d.number ≡ Some d.outcome) rest one (subst (AreOf own) split are) in (
        parts.0,
        subst (λ o. StandsOrComes own (set all one.number o) rest x) (sym new_is)
            (one_placed own all x rest one both.1 parts.1 (subst (λ them. StandsOrComes own all them x) split stood)),
      )

pub all_front : {A : Type 0} (P : A → Type 0) (all rest : List A) (one : A) → all ≡ rest ++ one ∷ [] → All P all → All P rest
all_front P all rest one split holds = (front_all P rest one (subst (All P) split holds)).0

-- ---- all shares

-- every visit was drawn by one of the seats, so every outcome came to its place
pub all_placed : (own all : List Outcome) (pool : Pool) (word count : ℕ) (seats : List Draws) → 1 ≤ count → pool.count ≡ length own
    → length all ≡ length own → AreBack pool count seats → AreClaimed word seats → IsPlaced own seats all → all ≡ own
all_placed own all pool word count seats some size many back claimed placed = same_places all own many (λ x below.
    let within : x < length own = omega (arith, below, many) in
    placed x within (omega (arith, each_drawn pool word count seats some back claimed x (omega (arith, within, size)))))

-- the visits beside what each gives by itself
pub zip_own : {A B : Type 0} (f : A → B) (xs : List A) → zip xs (map f xs) ≡ map (λ x. (x, f x)) xs
zip_own f [] = refl
zip_own f (x ∷ xs) = ap (λ rest. (x, f x) ∷ rest) (zip_own f xs)

pub shares_within : {V E : Type 0} (items : V → List Done) (own : List Outcome) (old seat : Draws) (done : Result V E) (n : ℕ) → length own ≡ n
    → IfOk done (λ d. HasDrawn own old seat (items d)) → IfOk done (λ d. All (λ (one : Done). one.number < n) (items d))
shares_within items own old seat (Err e) n size worked = tt
shares_within items own old seat (Ok d) n size worked = worked_within own (items d) n worked.outcomes size

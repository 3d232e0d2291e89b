-- What is found of the numbers that are asked for.
use Rattle.std.proofs.Common.{◌≡◌, ◌≢◌, ℕ, ◌+◌, ◌-◌, ◌==◌, ◌<◌, ◌≤◌, List, [], ◌∷◌, ◌++◌, length, take, drop, get_or, Bool, true, false, if◌then◌else◌, is_some, Option, Some, None, inl, inr, refl, sym, ap, ◌∙◌, arith}
use Rattle.std.specs.BTreeMap.{get}
use Rattle.std.specs.Ordering.{nat_cmp}
use Rattle.std.specs.List.{position, position_from}
use Rattle.std.specs.Option.{option_or}
use Rattle.std.proofs.lemmas.Bool.Decides.{eqb_tells}
use Rattle.std.proofs.lemmas.Iterator.Adapters.{position_from-zero}
use Rattle.std.proofs.lemmas.List.{take-append-drop}
use Rattle.upload_reader.specs.Session.{request_of}
use Rattle.upload_reader.specs.declared.message.Event.{Event}
use Rattle.client_log.specs.declared.visit.Visit.{Visit}
use Rattle.visit_replay.specs.Moved.{event_numbered, own_request, address_now, are_apart, is_moved}
use Rattle.visit_replay.specs.inside.Moves.{Numbers, IsFresh, IsRight, IsMet, is_pending, answer_in}
use Rattle.visit_replay.specs.declared.moves.Asked.{Asked}
use Rattle.visit_replay.specs.declared.outcome.Outcome.{Outcome}
use Rattle.visit_replay.proofs.FirstOfNumber.{next_if, event_more}

none_some : {A P : Type 0} (a : A) (o : Option A) → o ≡ None → o ≡ Some a → P
none_some a o none some = absurd (cc)

pub fresh_right : (finding : Option (List (List ℕ))) (visit : Visit) (outcome : Outcome) (asked : Asked) → IsFresh asked → IsRight finding visit outcome asked
fresh_right finding visit outcome asked fresh = record {
  found = λ number answer other at. let none = fresh.unfound number (Some answer) at in cc;
  missing = λ looked. let unlooked = fresh.unlooked in cc;
}

-- ---- the first of a number in a part of a list is the first in all

from_front : {X : Type 0} (p : X → Bool) (i k : ℕ) (xs ys : List X) → position_from p i xs ≡ Some k → position_from p i (xs ++ ys) ≡ Some k
from_front p i k [] ys is = cc
from_front p i k (x ∷ xs) ys is = here (p x) is (from_front p (i + 1) k xs ys)
  where
    here : (b : Bool) → (if b then Some i else position_from p (i + 1) xs) ≡ Some k → (position_from p (i + 1) xs ≡ Some k → position_from p (i + 1) (xs ++ ys) ≡ Some k)
        → (if b then Some i else position_from p (i + 1) (xs ++ ys)) ≡ Some k
    here true is later = is
    here false is later = later is

first_in_all : (events : List Event) (n number k : ℕ) → event_numbered (take n events) number ≡ Some k → event_numbered events number ≡ Some k
first_in_all events n number k is =
    let p : Event → Bool = λ e. request_of e == number in
    ap (position p) (sym (take-append-drop n events)) ∙ position_from-zero p (take n events ++ drop n events)
    ∙ from_front p 0 k (take n events) (drop n events) (sym (position_from-zero p (take n events)) ∙ is)

-- ---- whether it goes elsewhere

pub moved_at : (finding : Option (List (List ℕ))) (visit : Visit) (outcome : Outcome) (number k : ℕ) → number ≢ 0 → event_numbered visit.events number ≡ Some k
    → is_moved finding visit outcome number ≡ are_apart finding (own_request visit k) (address_now outcome number)
moved_at finding visit outcome number k other is = elim (eqb_tells number 0) [
  | inl same ↦ absurd (other same.1)
  | inr apart ↦ rw (apart.0, is) refl
]

pub not_moved : (finding : Option (List (List ℕ))) (visit : Visit) (outcome : Outcome) (number : ℕ) → number ≢ 0 → event_numbered visit.events number ≡ None → is_moved finding visit outcome number ≡ false
not_moved finding visit outcome number other is = elim (eqb_tells number 0) [
  | inl same ↦ absurd (other same.1)
  | inr apart ↦ rw (apart.0, is) refl
]

pub none_apart : (finding : Option (List (List ℕ))) (visit : Visit) (k : ℕ) → are_apart finding (own_request visit k) None ≡ false
none_apart finding visit k = go (own_request visit k)
  where
    go : (o : Option _) → are_apart finding o None ≡ false
    go None = refl
    go (Some before) = refl

-- ---- one number more is asked for

module _ (asked : Asked) (n : ℕ) (numbers : Numbers) (put : (m : ℕ) → get nat_cmp numbers m ≡ (if n == m then Some None else get nat_cmp asked.numbers m)) where
  here : (m : ℕ) → (n == m) ≡ true → get nat_cmp numbers m ≡ Some None
  here m is = put m ∙ ap (λ b. if b then Some None else get nat_cmp asked.numbers m) is

  there : (m : ℕ) → (n == m) ≡ false → get nat_cmp numbers m ≡ get nat_cmp asked.numbers m
  there m is = put m ∙ ap (λ b. if b then Some None else get nat_cmp asked.numbers m) is

  pub right_more : (finding : Option (List (List ℕ))) (visit : Visit) (outcome : Outcome) → IsRight finding visit outcome asked → IsRight finding visit outcome (record { numbers = numbers; looked = false })
  right_more finding visit outcome right = record {
    found = λ m answer other at. elim (eqb_tells n m) [
      | inl same ↦ let pending = here m same.0 in cc
      | inr apart ↦ right.found m answer other (sym (there m apart.0) ∙ at)
    ];
    missing = λ looked. cc;
  }

  pub fresh_more : IsFresh asked → IsFresh (record { numbers = numbers; looked = false })
  fresh_more fresh = record {
    unlooked = refl;
    unfound = λ m answer at. elim (eqb_tells n m) [
      | inl same ↦ let pending = here m same.0 in cc
      | inr apart ↦ fresh.unfound m answer (sym (there m apart.0) ∙ at)
    ];
  }

-- ---- one event more is looked at

pending_is : (o : Option (Option Bool)) → is_pending o ≡ true → o ≡ Some None
pending_is None is = cc
pending_is (Some None) is = refl
pending_is (Some (Some answer)) is = cc

module _ (finding : Option (List (List ℕ))) (visit : Visit) (outcome : Outcome) (k : ℕ) (event : Event) (n : ℕ) (below : k < length visit.events) (is : event ≡ get_or visit.events k event) (number_is : n ≡ request_of event) (old : Numbers) where
  no_more : (m : ℕ) → (n == m) ≡ false → event_numbered (take k visit.events) m ≡ None → event_numbered (take (k + 1) visit.events) m ≡ None
  no_more m apart none =
      event_more visit.events k event below is m ∙ ap (λ o. option_or o (next_if (request_of event == m) k)) none ∙ ap (λ b. next_if b k) (ap (λ r. r == m) (sym number_is) ∙ apart)

  comes_here : (m : ℕ) → (n == m) ≡ true → event_numbered (take k visit.events) m ≡ None → event_numbered visit.events m ≡ Some k
  comes_here m same none =
      first_in_all visit.events (k + 1) m k (event_more visit.events k event below is m ∙ ap (λ o. option_or o (next_if (request_of event == m) k)) none
      ∙ ap (λ b. next_if b k) (ap (λ r. r == m) (sym number_is) ∙ same))

  pub met_not : is_pending (get nat_cmp old n) ≡ false → IsMet finding visit outcome k old → IsMet finding visit outcome (k + 1) old
  met_not other met = record {
    found = met.found;
    pending = λ m some at. elim (eqb_tells n m) [
      | inl same ↦ let here : is_pending (get nat_cmp old n) ≡ true = ap (λ x. is_pending (get nat_cmp old x)) same.1 ∙ ap is_pending at in cc
      | inr apart ↦ no_more m apart.0 (met.pending m some at)
    ];
  }

  module _ (new : Numbers) (apart : Bool) (pending : is_pending (get nat_cmp old n) ≡ true) (answer_is : n ≢ 0 → apart ≡ are_apart finding (own_request visit k) (address_now outcome n))
      (put : (m : ℕ) → get nat_cmp new m ≡ (if n == m then Some (Some apart) else get nat_cmp old m)) where
    here_now : (m : ℕ) → (n == m) ≡ true → get nat_cmp new m ≡ Some (Some apart)
    here_now m same = put m ∙ ap (λ b. if b then Some (Some apart) else get nat_cmp old m) same

    there_still : (m : ℕ) → (n == m) ≡ false → get nat_cmp new m ≡ get nat_cmp old m
    there_still m other = put m ∙ ap (λ b. if b then Some (Some apart) else get nat_cmp old m) other

    pub met_one : IsMet finding visit outcome k old → IsMet finding visit outcome (k + 1) new
    met_one met = record {
      found = λ m answer some at. elim (eqb_tells n m) [
        | inl same ↦
            let told : Some (Some apart) ≡ Some (Some answer) = sym (here_now m same.0) ∙ at in
            let was : get nat_cmp old m ≡ Some None = ap (get nat_cmp old) (sym same.1) ∙ pending_is (get nat_cmp old n) pending in
            let moved = moved_at finding visit outcome m k some (comes_here m same.0 (met.pending m some was)) in
            let mine : answer ≡ apart = cc in
            mine ∙ answer_is (λ none. some (sym same.1 ∙ none)) ∙ ap (λ x. are_apart finding (own_request visit k) (address_now outcome x)) same.1 ∙ sym moved
        | inr other ↦ met.found m answer some (sym (there_still m other.0) ∙ at)
      ];
      pending = λ m some at. elim (eqb_tells n m) [
        | inl same ↦ let told : Some (Some apart) ≡ Some None = sym (here_now m same.0) ∙ at in cc
        | inr other ↦ no_more m other.0 (met.pending m some (sym (there_still m other.0) ∙ at))
      ];
    }

pub same_keys : (old new : Numbers) (n : ℕ) (answer : Option Bool) → is_pending (get nat_cmp old n) ≡ true → ((m : ℕ) → get nat_cmp new m ≡ (if n == m then Some answer else get nat_cmp old m)) → (m : ℕ)
    → is_some (get nat_cmp new m) ≡ is_some (get nat_cmp old m)
same_keys old new n answer pending put m = elim (eqb_tells n m) [
  | inl same ↦
      ap is_some (put m ∙ ap (λ b. if b then Some answer else get nat_cmp old m) same.0) ∙ sym (ap is_some (ap (get nat_cmp old) (sym same.1) ∙ pending_is (get nat_cmp old n) pending))
  | inr other ↦ ap is_some (put m ∙ ap (λ b. if b then Some answer else get nat_cmp old m) other.0)
]

-- ---- all events were looked at

pub none_met : (finding : Option (List (List ℕ))) (visit : Visit) (outcome : Outcome) (asked : Asked) (old : Numbers) → IsRight finding visit outcome asked → asked.numbers ≡ old → IsMet finding visit outcome 0 old
none_met finding visit outcome asked old right same = record {
  found = λ m answer some at. right.found m answer some (ap (λ numbers. get nat_cmp numbers m) same ∙ at);
  pending = λ m some at. refl;
}

pub all_met : (finding : Option (List (List ℕ))) (visit : Visit) (outcome : Outcome) (count : ℕ) (old new : Numbers) → ((m : ℕ) → is_some (get nat_cmp old m) ≡ true → event_numbered visit.events m ≡ event_numbered (take count visit.events) m)
    → ((m : ℕ) → is_some (get nat_cmp new m) ≡ is_some (get nat_cmp old m)) → IsMet finding visit outcome count new → IsRight finding visit outcome (record { numbers = new; looked = true })
all_met finding visit outcome count old new last same met = record {
  found = met.found;
  missing = λ looked m some at.
      not_moved finding visit outcome m some (last m (sym (same m) ∙ ap is_some at) ∙ met.pending m some at);
}

-- ---- up to the last that is asked for

pub fewer : (events : List Event) (numbers : Numbers) (count : ℕ) (event : Event) → 0 < count → count ≤ length events → event ≡ get_or events (count - 1) event
    → is_some (get nat_cmp numbers (request_of event)) ≡ false → (m : ℕ) → is_some (get nat_cmp numbers m) ≡ true
    → event_numbered (take count events) m ≡ event_numbered (take (count - 1) events) m
fewer events numbers count event some within is unasked m asked =
    let before : count - 1 + 1 ≡ count = omega (arith, some) in
    elim (eqb_tells (request_of event) m) [
      | inl same ↦ let there : is_some (get nat_cmp numbers (request_of event)) ≡ true = ap (λ x. is_some (get nat_cmp numbers x)) same.1 ∙ asked in cc
      | inr other ↦
          ap (λ n. event_numbered (take n events) m) (sym before) ∙ event_more events (count - 1) event (omega (arith, some, within)) is m
          ∙ ap (λ b. option_or (event_numbered (take (count - 1) events) m) (next_if b (count - 1))) other.0 ∙ option_or_none (event_numbered (take (count - 1) events) m)
    ]
  where
    option_or_none : {A : Type 0} (o : Option A) → option_or o None ≡ o
    option_or_none None = refl
    option_or_none (Some a) = refl

-- ---- once all were looked for

pub answer_is : (finding : Option (List (List ℕ))) (visit : Visit) (outcome : Outcome) (asked : Asked) (number : ℕ) → number ≢ 0 → IsRight finding visit outcome asked → asked.looked ≡ true → is_some (get nat_cmp asked.numbers number) ≡ true
    → answer_in (get nat_cmp asked.numbers number) ≡ is_moved finding visit outcome number
answer_is finding visit outcome asked number some right looked there = go (get nat_cmp asked.numbers number) refl there
  where
    go : (o : Option (Option Bool)) → get nat_cmp asked.numbers number ≡ o → is_some o ≡ true → answer_in o ≡ is_moved finding visit outcome number
    go None is here = cc
    go (Some None) is here = sym (right.missing looked number some is)
    go (Some (Some answer)) is here = right.found number answer some is

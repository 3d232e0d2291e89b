-- The first of a number, where items come one after another.
use Rattle.std.proofs.Common.{◌≡◌, ℕ, suc, ◌+◌, ◌<◌, List, [], ◌∷◌, ◌++◌, length, take, get_or, Bool, true, false, if◌then◌else◌, ◌==◌, is_some, Option, Some, None, option_map, inl, inr, refl, sym, ap, ◌∙◌, arith}
use Rattle.std.specs.List.{find, position, position_from}
use Rattle.std.specs.Option.{option_or}
use Rattle.std.proofs.lemmas.Bool.Decides.{eqb_tells}
use Rattle.std.proofs.lemmas.Iterator.Adapters.{position_from-zero}
use Rattle.std.proofs.lemmas.List.{length-take-le}
use Rattle.std.proofs.lemmas.List.Folds.{find-append}
use Rattle.upload_reader.specs.Session.{request_of}
use Rattle.upload_reader.specs.declared.message.Event.{Event}
use Rattle.visit_replay.specs.Moved.{event_numbered}
use Rattle.visit_replay.specs.declared.requests.Request.{Request}
use Rattle.visit_replay.proofs.Places.{taken_here}

-- the one that comes next, if it passes
abbrev pub next_if : {X : Type 0} → Bool → X → Option X
next_if passes x = if passes then Some x else None

pub find_one : {X : Type 0} (p : X → Bool) (x : X) (b : Bool) → b ≡ p x → find p (x ∷ []) ≡ next_if b x
find_one p x true is = rw (← is) refl
find_one p x false is = rw (← is) refl

from_cons : (here : Bool) (i : ℕ) (all rest last : Option ℕ) → all ≡ option_or rest last → (if here then Some i else all) ≡ option_or (if here then Some i else rest) last
from_cons true i all rest last is = refl
from_cons false i all rest last is = is

from_push : {X : Type 0} (p : X → Bool) (i : ℕ) (xs : List X) (x : X) → position_from p i (xs ++ x ∷ []) ≡ option_or (position_from p i xs) (next_if (p x) (i + length xs))
from_push p i [] x = let same : i + 0 ≡ i = omega arith in rw same refl
from_push p i (y ∷ xs) x =
    let next : i + 1 + length xs ≡ i + suc (length xs) = omega arith in
    from_cons (p y) i (position_from p (i + 1) (xs ++ x ∷ [])) (position_from p (i + 1) xs) (next_if (p x) (i + suc (length xs))) (from_push p (i + 1) xs x ∙ ap (λ k. option_or (position_from p (i + 1) xs) (next_if (p x) k)) next)

-- ---- one more

pub request_more : (requests : List Request) (i : ℕ) (request : Request) → i < length requests → request ≡ get_or requests i request → (number : ℕ)
    → find (λ r. r.number == number) (take (i + 1) requests) ≡ option_or (find (λ r. r.number == number) (take i requests)) (next_if (request.number == number) request)
request_more requests i request below is number =
    ap (find (λ r. r.number == number)) (taken_here requests i request below is) ∙ find-append (λ r. r.number == number) (take i requests) (request ∷ [])
    ∙ ap (option_or (find (λ r. r.number == number) (take i requests))) (find_one (λ r. r.number == number) request (request.number == number) refl)

pub event_more : (events : List Event) (k : ℕ) (event : Event) → k < length events → event ≡ get_or events k event → (number : ℕ)
    → event_numbered (take (k + 1) events) number ≡ option_or (event_numbered (take k events) number) (next_if (request_of event == number) k)
event_more events k event below is number =
    let p : Event → Bool = λ e. request_of e == number in
    let count : 0 + length (take k events) ≡ k = omega (arith, length-take-le k events) in
    ap (position p) (taken_here events k event below is) ∙ position_from-zero p (take k events ++ event ∷ []) ∙ from_push p 0 (take k events) event
    ∙ ap (λ n. option_or (position_from p 0 (take k events)) (next_if (p event) n)) count ∙ ap (λ found. option_or found (next_if (p event) k)) (sym (position_from-zero p (take k events)))

-- ---- what is kept of the first

module _ {X Y : Type 0} (g : X → Y) where
  pub some_map : (o : Option X) → is_some (option_map g o) ≡ is_some o
  some_map None = refl
  some_map (Some x) = refl

  none_more : (first : Option X) → option_map g first ≡ option_map g (option_or first None)
  none_more None = refl
  none_more (Some z) = refl

  known : (first : Option X) (next : Option X) → is_some (option_map g first) ≡ true → option_map g first ≡ option_map g (option_or first next)
  known None next there = cc
  known (Some z) next there = refl

  unknown : (first : Option X) (x : X) → is_some (option_map g first) ≡ false → Some (g x) ≡ option_map g (option_or first (Some x))
  unknown None x none = refl
  unknown (Some z) x none = cc

module _ {X Y : Type 0} (g : X → Y) (first : Option X) (x : X) (kept : ℕ → Option Y) (here number : ℕ) (are : kept number ≡ option_map g first) where
  -- where there is one already, or the next has another number, nothing changes
  pub stays : is_some (kept here) ≡ true → kept number ≡ option_map g (option_or first (next_if (here == number) x))
  stays there = elim (eqb_tells here number) [
    | inl same ↦ are ∙ known g first _ (sym (ap is_some are) ∙ ap (λ n. is_some (kept n)) (sym same.1) ∙ there)
    | inr other ↦ are ∙ rw other.0 (none_more g first)
  ]

  pub comes : (y : Y) (new : Option Y) → is_some (kept here) ≡ false → (here ≡ number → y ≡ g x) → new ≡ (if here == number then Some y else kept number) → new ≡ option_map g (option_or first (next_if (here == number) x))
  comes y new none value is = elim (eqb_tells here number) [
    | inl same ↦ is ∙ rw same.0 (ap Some (value same.1) ∙ unknown g first x (sym (ap is_some are) ∙ ap (λ n. is_some (kept n)) (sym same.1) ∙ none))
    | inr other ↦ is ∙ rw other.0 (are ∙ none_more g first)
  ]

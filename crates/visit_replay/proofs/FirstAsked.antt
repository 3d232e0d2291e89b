-- The first deed of a trail that asked for something with a number.
use Rattle.std.proofs.Common.{◌≡◌, ◌≢◌, ℕ, zero, suc, ◌+◌, ◌<◌, ◌≤◌, ◌==◌, ◌&&◌, List, [], ◌∷◌, length, take, slice_get, Bool, true, false, cond, not, if◌then◌else◌, is_some, Option, Some, None, IfSome, option_map, option_and_then, inl, inr, ⊎_elim, codes, refl, sym, ap, subst, ◌∙◌, arith}
use Rattle.std.specs.BTreeMap.{BTreeMap, get}
use Rattle.std.specs.List.{find, filter_map, range_with_len, cons_option}
use Rattle.std.specs.Option.{option_or}
use Rattle.std.specs.Ordering.{nat_cmp}
use Rattle.std.proofs.lemmas.Bool.{ne_eqb, cases_lt}
use Rattle.std.proofs.lemmas.Bool.Decides.{eqb_tells}
use Rattle.std.proofs.lemmas.List.Folds.{find-append}
use Rattle.page_tree.specs.Tree.{Tree}
use Rattle.page_tree.specs.Look.{attribute_at}
use Rattle.page_tree.specs.Number.{place_numbered}
use Rattle.visit_replay.specs.Difference.{are_alike}
use Rattle.visit_replay.specs.Moved.{requests_of, address_now}
use Rattle.visit_replay.specs.Requests.{load_request, link_request}
use Rattle.visit_replay.specs.inside.Deed.{Deed, Typed, Clicked, Sent}
use Rattle.visit_replay.specs.inside.Deeds.{deed_number, deed_request, form_asked, requests_on}
use Rattle.visit_replay.specs.inside.Differing.{asked_as, other_by}
use Rattle.visit_replay.specs.inside.FirstDeeds.{is_asked_as, first_asked, HavePassed}
use Rattle.visit_replay.specs.inside.Trails.{asked_at, asked_from}
use Rattle.visit_replay.specs.declared.outcome.Outcome.{Outcome}
use Rattle.visit_replay.specs.declared.requests.Method.TheVariants.{Get}
use Rattle.visit_replay.specs.declared.requests.Request.{Request}
use Rattle.visit_replay.specs.declared.trail.Trail.{Trail}
use Rattle.visit_replay.proofs.FirstOfNumber.{next_if, find_one}
use Rattle.visit_replay.proofs.FreshValues.{sent_number}
use Rattle.visit_replay.proofs.Places.{some_same}
use Rattle.visit_replay.proofs.Stepping.{range_more, first_in_range}
use Rattle.visit_replay.proofs.TrailLaws.{all_asked}

-- ---- a deed's request has its number

guarded : (req : ℕ) (o : Option Request) → ((r : Request) → o ≡ Some r → r.number ≡ req) → (b : Bool) (r : Request) → (if b then None else o) ≡ Some r → r.number ≡ req
guarded req o numbered true r is = cc
guarded req o numbered false r is = numbered r is

link_number : (number : ℕ) (found : Option (List ℕ)) (r : Request)
    → option_map (λ address. record { number = number; method = Get; address = address; pairs = [] }) found ≡ Some r → r.number ≡ number
link_number number None r is = cc
link_number number (Some address) r is =
    let made : Request = record { number = number; method = Get; address = address; pairs = [] } in
    let same : made ≡ r = some_same made r is in
    sym (ap (λ q. q.number) same)

deed_numbered : (address : List ℕ) (page : Tree) (before : List Deed) (deed : Deed) (r : Request) → deed_request address page before deed ≡ Some r → r.number ≡ deed_number deed
deed_numbered address page before (Typed field value) r is = cc
deed_numbered address page before (Clicked node req) r is =
    guarded req (link_request req (place_numbered node page) page) (link_number req (attribute_at (place_numbered node page) (codes "href") page)) (req == 0) r is
deed_numbered address page before (Sent form button req) r is =
    let made = form_asked address page before form button req in
    guarded req (Some made) (λ q same. sym (ap (λ (x : Request). x.number) (some_same made q same)) ∙ sent_number _ req _ _) (req == 0) r is

-- ---- by what number it asked

pub asked_numbered : (trail : Trail) (place : ℕ) (deed : Deed) → slice_get trail.deeds.items place ≡ Some deed → (r : Request)
    → asked_at trail place ≡ Some r → r.number ≡ deed_number deed
asked_numbered trail place deed at r asked =
    let items = trail.deeds.items in
    deed_numbered trail.address trail.page (take place items) deed r
    (sym (ap (option_and_then (deed_request trail.address trail.page (take place items))) at) ∙ asked)

with_number : (o : Option Request) (n number : ℕ) → is_some o ≡ true → ((r : Request) → o ≡ Some r → r.number ≡ n) → is_asked_as number o ≡ (n == number)
with_number None n number some all = cc
with_number (Some r) n number some all = ap (λ m. m == number) (all r refl)

pub asked_so : (trail : Trail) (place : ℕ) (deed : Deed) → slice_get trail.deeds.items place ≡ Some deed → is_some (asked_at trail place) ≡ true
    → (number : ℕ) → is_asked_as number (asked_at trail place) ≡ (deed_number deed == number)
asked_so trail place deed at some number = with_number (asked_at trail place) (deed_number deed) number some (asked_numbered trail place deed at)

not_asked : (trail : Trail) (place number : ℕ) → is_some (asked_at trail place) ≡ false → is_asked_as number (asked_at trail place) ≡ false
not_asked trail place number none = go (asked_at trail place) none
  where
    go : (o : Option Request) → is_some o ≡ false → is_asked_as number o ≡ false
    go None none = refl
    go (Some r) none = cc

smaller : (o : Option Request) (last number : ℕ) → IfSome o (λ r. r.number ≤ last) → last < number → is_asked_as number o ≡ false
smaller None last number most above = refl
smaller (Some r) last number most above = ne_eqb r.number number (λ same. absurd (omega (arith, most, above, same)))

is_itself : (a : ℕ) → (a == a) ≡ true
is_itself a = elim (eqb_tells a a) [
  | inl same ↦ same.0
  | inr other ↦ absurd (other.1 refl)
]

-- ---- the walk

none_as : (o : Option Request) (number : ℕ) → o ≡ None → is_asked_as number o ≡ false
none_as o number none = ap (is_asked_as number) none

at_most : (o : Option Request) (last : ℕ) → o ≡ None → IfSome o (λ r. r.number ≤ last)
at_most None last none = tt
at_most (Some r) last none = absurd cc

raised : (o : Option Request) (last more : ℕ) → last ≤ more → IfSome o (λ r. r.number ≤ last) → IfSome o (λ r. r.number ≤ more)
raised None last more less most = tt
raised (Some r) last more less most = omega (arith, less, most)

below_it : (o : Option Request) (n more : ℕ) → ((r : Request) → o ≡ Some r → r.number ≡ n) → n ≤ more → IfSome o (λ r. r.number ≤ more)
below_it None n more all less = tt
below_it (Some r) n more all less = omega (arith, less, all r refl)

split : (P : ℕ → Type 0) (from place : ℕ) → ((k : ℕ) → k < from → P k) → ((k : ℕ) → from ≤ k → k < place → P k) → (k : ℕ) → k < place → P k
split P from place before between k less = ⊎_elim (λ first. before k first) (λ later. between k later less) (cases_lt k from)

pub passed_more : (trail : Trail) (from last place : ℕ) (deed : Deed) (more : ℕ) → HavePassed trail from last → ((k : ℕ) → from ≤ k → k < place → asked_at trail k ≡ None)
    → slice_get trail.deeds.items place ≡ Some deed → last ≤ more → deed_number deed ≤ more → HavePassed trail (place + 1) more
passed_more trail from last place deed more passed none stands less here =
    split (λ k. IfSome (asked_at trail k) (λ r. r.number ≤ more)) place (place + 1)
    (split (λ k. IfSome (asked_at trail k) (λ r. r.number ≤ more)) from place (λ k first. raised (asked_at trail k) last more less (passed k first)) (λ k later before. at_most (asked_at trail k) more (none k later before)))
    (λ k at most. let same : k ≡ place = omega (arith, at, most) in
    subst (λ n. IfSome (asked_at trail n) (λ r. r.number ≤ more)) (sym same) (below_it (asked_at trail place) (deed_number deed) more (asked_numbered trail place deed stands) here))

pub found_here : (trail : Trail) (from last place : ℕ) (deed : Deed) (number : ℕ) → HavePassed trail from last → last < number → ((k : ℕ) → from ≤ k → k < place → asked_at trail k ≡ None)
    → place < length trail.deeds.items → slice_get trail.deeds.items place ≡ Some deed → is_some (asked_at trail place) ≡ true → deed_number deed ≡ number → first_asked trail number ≡ Some place
found_here trail from last place deed number passed above none below stands some same =
    let p : ℕ → Bool = λ k. is_asked_as number (asked_at trail k) in
    let all : (k : ℕ) → k < place → p k ≡ false = split (λ k. p k ≡ false) from place (λ k first. smaller (asked_at trail k) last number (passed k first) above) (λ k later before. none_as (asked_at trail k) number (none k later before)) in
    let here : 0 + place ≡ place = omega arith in
    first_in_range p 0 (length trail.deeds.items) place below (λ k less. let there : 0 + k ≡ k = omega arith in ap p there ∙ all k less)
    (ap p here ∙ asked_so trail place deed stands some number ∙ rw same (is_itself number)) ∙ ap Some here

-- ---- by a map

more_kept : (here number : ℕ) (place : ℕ) (kept : ℕ → Option ℕ)
    → (if not (is_some (kept here)) && here == number then Some place else kept number) ≡ option_or (kept number) (next_if (here == number) place)
more_kept here number place kept = elim (eqb_tells here number) [
  | inl same ↦ rw same.0 (first (kept here) (kept number) (ap kept same.1))
  | inr other ↦ rw other.0 (neither (is_some (kept here)) (kept number))
]
  where
    first : (o p : Option ℕ) → o ≡ p → (if not (is_some o) && true then Some place else p) ≡ option_or p (Some place)
    first o None same = rw same refl
    first o (Some k) same = rw same refl

    neither : (b : Bool) (p : Option ℕ) → (if not b && false then Some place else p) ≡ option_or p None
    neither true None = refl
    neither true (Some k) = refl
    neither false None = refl
    neither false (Some k) = refl

one_more : (p : ℕ → Bool) (place : ℕ) → find p (range_with_len 0 (place + 1)) ≡ option_or (find p (range_with_len 0 place)) (next_if (p place) place)
one_more p place =
    let next : place + 1 ≡ suc place = omega arith in
    rw next (ap (find p) (range_more 0 place place (omega arith)) ∙ find-append p (range_with_len 0 place) (place ∷ []) ∙ ap (option_or (find p (range_with_len 0 place))) (find_one p place (p place) refl))

-- the first of each number among so many deeds
abbrev pub HasFirstOf : Trail → ℕ → BTreeMap ℕ ℕ → Type 0
HasFirstOf trail n places = (number : ℕ) → get nat_cmp places number ≡ find (λ place. is_asked_as number (asked_at trail place)) (range_with_len 0 n)

pub first_more : (trail : Trail) (place : ℕ) (deed : Deed) (old new : BTreeMap ℕ ℕ) → slice_get trail.deeds.items place ≡ Some deed → is_some (asked_at trail place) ≡ true
    → ((other : ℕ) → get nat_cmp new other ≡ (if not (is_some (get nat_cmp old (deed_number deed))) && deed_number deed == other then Some place else get nat_cmp old other))
    → HasFirstOf trail place old → HasFirstOf trail (place + 1) new
first_more trail place deed old new stands some put first number =
    put number ∙ more_kept (deed_number deed) number place (get nat_cmp old)
    ∙ ap (λ o. option_or o (next_if (deed_number deed == number) place)) (first number)
    ∙ ap (λ b. option_or (find (λ k. is_asked_as number (asked_at trail k)) (range_with_len 0 place)) (next_if b place)) (sym (asked_so trail place deed stands some number))
    ∙ sym (one_more (λ k. is_asked_as number (asked_at trail k)) place)

pub first_stays : (trail : Trail) (place : ℕ) (places : BTreeMap ℕ ℕ) → is_some (asked_at trail place) ≡ false → HasFirstOf trail place places → HasFirstOf trail (place + 1) places
first_stays trail place places none first number =
    first number ∙ sym (or_none (find (λ k. is_asked_as number (asked_at trail k)) (range_with_len 0 place)))
    ∙ ap (λ b. option_or (find (λ k. is_asked_as number (asked_at trail k)) (range_with_len 0 place)) (next_if b place)) (sym (not_asked trail place number none))
    ∙ sym (one_more (λ k. is_asked_as number (asked_at trail k)) place)
  where
    or_none : {A : Type 0} (o : Option A) → option_or o None ≡ o
    or_none None = refl
    or_none (Some a) = refl

found_or : (b : Bool) (at n k : ℕ) (rest : Option ℕ) → (rest ≡ Some k → k < at + suc n) → cond b (Some at) rest ≡ Some k → k < at + suc n
found_or true at n k rest later found = let same : at ≡ k = some_same at k found in omega (arith, same)
found_or false at n k rest later found = later found

found_within : (p : ℕ → Bool) (at n k : ℕ) → find p (range_with_len at n) ≡ Some k → k < at + n
found_within p at zero k found = absurd cc
found_within p at (suc n) k found =
    found_or (p at) at n k (find p (range_with_len (at + 1) n)) (λ later. omega (arith, found_within p (at + 1) n k later)) found

pub first_within : (trail : Trail) (number place : ℕ) → first_asked trail number ≡ Some place → place < length trail.deeds.items
first_within trail number place first =
    omega (arith, found_within (λ k. is_asked_as number (asked_at trail k)) 0 (length trail.deeds.items) place first)

pub within_first : (trail : Trail) (number : ℕ) (o : Option ℕ) → o ≡ first_asked trail number → IfSome o (λ place. place < length trail.deeds.items)
within_first trail number None first = tt
within_first trail number (Some place) first = first_within trail number place (sym first)

-- ---- what it asked for

module _ (f : ℕ → Option Request) (number k : ℕ) (ks : List ℕ) (rest : option_and_then f (find (λ j. is_asked_as number (f j)) ks) ≡ find (λ r. r.number == number) (filter_map f ks)) where
  chosen : (r : Request) (b : Bool) → f k ≡ Some r
      → option_and_then f (cond b (Some k) (find (λ j. is_asked_as number (f j)) ks)) ≡ cond b (Some r) (find (λ q. q.number == number) (filter_map f ks))
  chosen r true is = is
  chosen r false is = rest

  next_in : (o : Option Request) → f k ≡ o
      → option_and_then f (cond (is_asked_as number o) (Some k) (find (λ j. is_asked_as number (f j)) ks)) ≡ find (λ r. r.number == number) (cons_option o (filter_map f ks))
  next_in None is = rest
  next_in (Some r) is = chosen r (r.number == number) is

asked_in : (f : ℕ → Option Request) (number : ℕ) (ks : List ℕ)
    → option_and_then f (find (λ k. is_asked_as number (f k)) ks) ≡ find (λ r. r.number == number) (filter_map f ks)
asked_in f number [] = refl
asked_in f number (k ∷ ks) = next_in f number k ks (asked_in f number ks) (f k) refl

pub first_is : (trail : Trail) (number : ℕ) → option_and_then (asked_at trail) (first_asked trail number) ≡ asked_as trail number
first_is trail number =
    asked_in (asked_at trail) number (range_with_len 0 (length trail.deeds.items)) ∙ ap (find (λ r. r.number == number)) (sym (all_asked trail))

pub other_is : (fresh : List (List ℕ)) (own : Trail) (is : Request) (place : Option ℕ) (was : Option Request) → first_asked own is.number ≡ place → option_and_then (asked_at own) place ≡ was
    → other_by fresh own is ≡ option_and_then (λ w. if are_alike fresh w is then None else Some w) was
other_is fresh own is place was first asked =
    ap (option_and_then (λ w. if are_alike fresh w is then None else Some w)) (sym (first_is own is.number) ∙ ap (option_and_then (asked_at own)) first ∙ asked)

-- among its requests the load has no number of an event
pub behind_load : (trail : Trail) (number : ℕ) → (0 == number) ≡ false → find (λ r. r.number == number) (load_request trail.address ∷ asked_from trail 0) ≡ asked_as trail number
behind_load trail number other = ap (λ b. cond b (Some (load_request trail.address)) (asked_as trail number)) other

pub first_address : (trail : Trail) (number : ℕ) (place : Option ℕ) (o : Option Request) → place ≡ first_asked trail number → o ≡ option_and_then (asked_at trail) place
    → option_map (λ r. r.address) o ≡ option_map (λ r. r.address) (asked_as trail number)
first_address trail number place o first is =
    ap (option_map (λ r. r.address)) (is ∙ ap (option_and_then (asked_at trail)) first ∙ first_is trail number)

pub address_is : (trail : Trail) (outcome : Outcome) (number : ℕ) → number ≢ 0 → requests_of outcome ≡ requests_on trail.address trail.page trail.deeds.items
    → option_map (λ r. r.address) (asked_as trail number) ≡ address_now outcome number
address_is trail outcome number other requests =
    sym (ap (λ all. option_map (λ r. r.address) (find (λ r. r.number == number) all)) requests
    ∙ ap (option_map (λ r. r.address)) (behind_load trail number (ne_eqb 0 number (λ same. other (sym same)))))

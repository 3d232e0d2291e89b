-- Two queries beside one another: what counts of both is one, where it is so pair by pair.
use Rattle.std.proofs.Common.{◌≡◌, ◌≢◌, ℕ, ◌<◌, ◌==◌, List, [], ◌∷◌, ◌++◌, filter, length, nat_lt, not, Bool, true, false, ◌&&◌, if◌then◌else◌, All, Option, Some, None, option_map, MatchOption, IfSome, Bor, refl, sym, ap, ap₂, ◌∙◌, subst, append_assoc, append-nil, arith}
use Rattle.std.specs.List.{after_first, before_first, list_all, position_or_len, slice_split}
use Rattle.std.specs.Str.{bytes_eq}
use Rattle.std.proofs.Math.Seq.{take_all}
use Rattle.std.proofs.lemmas.Bool.{and_parts, ltb-true, ltb-false, ne_eqb, eqb-false, eqb-true, not-true}
use Rattle.std.proofs.lemmas.List.Elements.{All-nil, All-cons, All-head, All-tail}
use Rattle.std.proofs.lemmas.List.Splits.{slice_split_first, slice_split_none}
use Rattle.std.proofs.lemmas.List.Sums.{fails_before_first, passes_at_first, split_at_first}
use Rattle.page_looks.specs.Sending.{is_passed_over, kept_pairs, next_pairs, query_text, without_fresh}
use Rattle.page_looks.proofs.CounterpartLaws.{bytes_one, bytes_same}
use Rattle.visit_replay.specs.inside.Queries.{IsQueryOf, how_long, kept_in}
use Rattle.visit_replay.proofs.FreshValues.{front_is, what_counts_is}
use Rattle.visit_replay.proofs.LeftBehind.{eq_both}

-- ---- the first pair

abbrev is_mark : ℕ → Bool
is_mark c = c == 38

abbrev pub IsFree : List ℕ → Type 0
IsFree pair = All (λ b. is_mark b ≡ false) pair

split_front : (text : List ℕ) (b : Bool) → nat_lt (position_or_len is_mark text) (length text) ≡ b → (rest : List (List ℕ)) × (slice_split is_mark text ≡ before_first is_mark text ∷ rest)
split_front text true h = (_, slice_split_first is_mark text 0 (ltb-true _ _ h))
split_front text false h =
    let all = ltb-false _ _ h in
    ([], slice_split_none is_mark text (λ k d inside. fails_before_first is_mark text k d (omega (arith, all))) ∙ ap (λ first. first ∷ []) (sym (take_all (position_or_len is_mark text) text all)))

first_same : (x y : List ℕ) (xs ys : List (List ℕ)) → x ∷ xs ≡ y ∷ ys → x ≡ y
first_same x y xs ys is = cc

pub first_free : (text pair : List ℕ) (rest : List (List ℕ)) → slice_split is_mark text ≡ pair ∷ rest → IsFree pair
first_free text pair rest is =
    let front = split_front text _ refl in
    subst IsFree (first_same (before_first is_mark text) pair front.0 rest (sym front.1 ∙ is)) (front_is (λ b. is_mark b ≡ false) is_mark (λ b none. none) text)

-- ---- what counts of a query

-- a pair and the ones behind it that count
abbrev pub with_first : Bool → List ℕ → List (List ℕ) → List (List ℕ)
with_first left_out pair more = if left_out then more else pair ∷ more

abbrev pub IsFirst : List ℕ → List ℕ → Option (Bor (List ℕ)) → Type 0
IsFirst text pair next = MatchOption next (slice_split is_mark text ≡ pair ∷ []) (λ rest. slice_split is_mark text ≡ pair ∷ slice_split is_mark rest.now)

free_of : (text pair : List ℕ) (next : Option (Bor (List ℕ))) → IsFirst text pair next → IsFree pair
free_of text pair None is = first_free text pair [] is
free_of text pair (Some rest) is = first_free text pair (slice_split is_mark rest.now) is

abbrev pub behind : Option (Bor (List ℕ)) → Option (List ℕ)
behind next = option_map (λ q. q.now) next

counted : (fresh : List (List ℕ)) (pair : List ℕ) (more : List (List ℕ)) (b : Bool) → is_passed_over fresh pair ≡ b
    → filter (λ p. not (is_passed_over fresh p)) (pair ∷ more) ≡ with_first b pair (filter (λ p. not (is_passed_over fresh p)) more)
counted fresh pair more true is = rw is refl
counted fresh pair more false is = rw is refl

pub kept_first : (fresh : List (List ℕ)) (text pair : List ℕ) (next : Option (Bor (List ℕ))) (b : Bool) → IsFirst text pair next → is_passed_over fresh pair ≡ b
    → kept_pairs fresh text ≡ with_first b pair (kept_in fresh (behind next))
kept_first fresh text pair None b is left_out = ap (filter (λ p. not (is_passed_over fresh p))) is ∙ counted fresh pair [] b left_out
kept_first fresh text pair (Some rest) b is left_out =
    ap (filter (λ p. not (is_passed_over fresh p))) is ∙ counted fresh pair (slice_split is_mark rest.now) b left_out

-- ---- texts of pairs

-- behind a pair that both have
behind_same : (xs ys : List (List ℕ)) → bytes_eq (next_pairs xs) (next_pairs ys) ≡ bytes_eq (query_text xs) (query_text ys)
behind_same [] [] = refl
behind_same [] (y ∷ ys) = refl
behind_same (x ∷ xs) [] = refl
behind_same (x ∷ xs) (y ∷ ys) = refl

pub same_first : (b : Bool) (pair : List ℕ) (xs ys : List (List ℕ)) → bytes_eq (query_text (with_first b pair xs)) (query_text (with_first b pair ys)) ≡ bytes_eq (query_text xs) (query_text ys)
same_first true pair xs ys = refl
same_first false pair xs ys = eq_both pair (next_pairs xs) (next_pairs ys) ∙ behind_same xs ys

-- a pair that one has alone
pub only_one : (pair : List ℕ) (xs : List (List ℕ)) → bytes_eq (query_text (pair ∷ xs)) (query_text []) ≡ false
only_one pair xs = refl

pub only_other : (pair : List ℕ) (xs : List (List ℕ)) → bytes_eq (query_text []) (query_text (pair ∷ xs)) ≡ false
only_other pair xs = refl

turned : (c : ℕ) → (c == 38) ≡ false → (38 == c) ≡ false
turned c is = ne_eqb 38 c (λ same. eqb-false c 38 is (sym same))

heads : (pair other : List ℕ) (xs ys : List (List ℕ)) → IsFree pair → IsFree other → bytes_eq pair other ≡ false → bytes_eq (pair ++ next_pairs xs) (other ++ next_pairs ys) ≡ false
heads [] [] xs ys free there apart = cc
heads [] (c ∷ other) [] ys free there apart = refl
heads [] (c ∷ other) (x ∷ xs) ys free there apart = ap (λ b. b && bytes_eq (x ++ next_pairs xs) (other ++ next_pairs ys)) (turned c (All-head (λ b. is_mark b ≡ false) c other there))
heads (c ∷ pair) [] xs [] free there apart = refl
heads (c ∷ pair) [] xs (y ∷ ys) free there apart = ap (λ b. b && bytes_eq (pair ++ next_pairs xs) (y ++ next_pairs ys)) (All-head (λ b. is_mark b ≡ false) c pair free)
heads (b ∷ pair) (c ∷ other) xs ys free there apart = go (b == c) apart (heads pair other xs ys (All-tail (λ b. is_mark b ≡ false) b pair free) (All-tail (λ b. is_mark b ≡ false) c other there))
  where
    go : (t : Bool) → (t && bytes_eq pair other) ≡ false → (bytes_eq pair other ≡ false → bytes_eq (pair ++ next_pairs xs) (other ++ next_pairs ys) ≡ false)
        → (t && bytes_eq (pair ++ next_pairs xs) (other ++ next_pairs ys)) ≡ false
    go true apart later = later apart
    go false apart later = refl

-- two pairs that differ and count
pub heads_apart : (pair other : List ℕ) (xs ys : List (List ℕ)) → IsFree pair → IsFree other → bytes_eq pair other ≡ false → bytes_eq (query_text (pair ∷ xs)) (query_text (other ∷ ys)) ≡ false
heads_apart pair other xs ys free there apart = heads pair other xs ys free there apart

module _ (fresh : List (List ℕ)) (was is pair other : List ℕ) (next further : Option (Bor (List ℕ))) (first : IsFirst was pair next) (second : IsFirst is other further) where
  pub both_same : bytes_eq pair other ≡ true
      → bytes_eq (query_text (kept_in fresh (behind next))) (query_text (kept_in fresh (behind further))) ≡ bytes_eq (query_text (kept_pairs fresh was)) (query_text (kept_pairs fresh is))
  both_same same =
      let as_pair = subst (λ p. IsFirst is p further) (sym (bytes_one pair other same)) second in
      sym (ap₂ (λ x y. bytes_eq (query_text x) (query_text y)) (kept_first fresh was pair next (is_passed_over fresh pair) first refl) (kept_first fresh is pair further (is_passed_over fresh pair) as_pair refl)
      ∙ same_first (is_passed_over fresh pair) pair (kept_in fresh (behind next)) (kept_in fresh (behind further)))

  pub both_apart : bytes_eq pair other ≡ false → is_passed_over fresh pair ≡ false → is_passed_over fresh other ≡ false → bytes_eq (query_text (kept_pairs fresh was)) (query_text (kept_pairs fresh is)) ≡ false
  both_apart apart one two =
      ap₂ (λ x y. bytes_eq (query_text x) (query_text y)) (kept_first fresh was pair next false first one) (kept_first fresh is other further false second two)
      ∙ heads_apart pair other (kept_in fresh (behind next)) (kept_in fresh (behind further)) (free_of was pair next first) (free_of is other further second) apart

-- ---- a pair that doesn't count

pub passed_first : (fresh : List (List ℕ)) (was pair : List ℕ) (next : Option (Bor (List ℕ))) (others : List (List ℕ)) → IsFirst was pair next → is_passed_over fresh pair ≡ true
    → bytes_eq (query_text (kept_in fresh (behind next))) (query_text others) ≡ bytes_eq (query_text (kept_pairs fresh was)) (query_text others)
passed_first fresh was pair next others first over = sym (ap (λ x. bytes_eq (query_text x) (query_text others)) (kept_first fresh was pair next true first over))

pub passed_second : (fresh : List (List ℕ)) (is other : List ℕ) (further : Option (Bor (List ℕ))) (others : List (List ℕ)) → IsFirst is other further → is_passed_over fresh other ≡ true
    → bytes_eq (query_text others) (query_text (kept_in fresh (behind further))) ≡ bytes_eq (query_text others) (query_text (kept_pairs fresh is))
passed_second fresh is other further others second over = sym (ap (λ x. bytes_eq (query_text others) (query_text x)) (kept_first fresh is other further true second over))

pub eq_self : (text : List ℕ) → bytes_eq text text ≡ true
eq_self text = ap₂ bytes_eq (sym (append-nil text)) (sym (append-nil text)) ∙ eq_both text [] []

pub less_left : (text : List ℕ) (next : Option (Bor (List ℕ))) → IfSome next (λ rest. length rest.now < length text) → how_long (behind next) < how_long (Some text)
less_left text None less = omega arith
less_left text (Some rest) less = omega (arith, less)

-- ---- addresses

-- an address cut at its first `?`
pub query_cut : (address : List ℕ) (r : Option (Bor (List ℕ) × Bor (List ℕ))) → list_all (λ c. not (c == 35)) address ≡ true
    → MatchOption r (position_or_len (λ c. c == 63) address ≡ length address) (λ x. (position_or_len (λ c. c == 63) address < length address) × (x.0.now ≡ before_first (λ c. c == 63) address) × (x.1.now ≡ after_first (λ c. c == 63) address))
    → IfSome r (λ cut. IsQueryOf address cut.0.now cut.1.now)
query_cut address None whole is = tt
query_cut address (Some x) whole (less, front, back) = record {
  cut = split_at_first (λ c. c == 63) address 0 less
      ∙ ap₂ (λ (f r : List ℕ). f ++ r) (sym front) (ap₂ (λ (b : ℕ) (r : List ℕ). b ∷ r) (eqb-true _ 63 (passes_at_first (λ c. c == 63) address 0 less)) (sym back));
  first = subst (All (λ b. b ≢ 63)) (sym front) (front_is (λ b. b ≢ 63) (λ c. c == 63) (λ b none. eqb-false b 63 none) address);
  whole = whole;
}

pub whole_parts : (start query : List ℕ) → list_all (λ c. not (c == 35)) (start ++ 63 ∷ query) ≡ true → All (λ b. b ≢ 35) start × All (λ b. b ≢ 35) query
whole_parts [] query whole = (All-nil (λ b. b ≢ 35), all_of query whole)
  where
    all_of : (xs : List ℕ) → list_all (λ c. not (c == 35)) xs ≡ true → All (λ b. b ≢ 35) xs
    all_of [] h = All-nil (λ b. b ≢ 35)
    all_of (x ∷ xs) h = let parts = and_parts _ _ h in All-cons (λ b. b ≢ 35) x xs (eqb-false x 35 (not-true _ parts.0)) (all_of xs parts.1)
whole_parts (x ∷ start) query whole =
    let parts = and_parts _ _ whole in
    let later = whole_parts start query parts.1 in
    (All-cons (λ b. b ≢ 35) x start (eqb-false x 35 (not-true _ parts.0)) later.0, later.1)

behind_all : (start query : List ℕ) → list_all (λ c. not (c == 35)) (start ++ query) ≡ true → list_all (λ c. not (c == 35)) query ≡ true
behind_all [] query whole = whole
behind_all (x ∷ start) query whole = behind_all start query (and_parts _ _ whole).1

counts : (fresh : List (List ℕ)) (address start query : List ℕ) → IsQueryOf address start query → without_fresh fresh address ≡ start ++ query_text (kept_pairs fresh query)
counts fresh address start query is =
    let parts = whole_parts start query (sym (ap (list_all (λ c. not (c == 35))) is.cut) ∙ is.whole) in
    ap (without_fresh fresh) (is.cut ∙ sym (append_assoc start (63 ∷ []) query)) ∙ what_counts_is fresh start query is.first parts.0 parts.1

-- with one start two addresses differ where their queries do
pub by_queries : (fresh : List (List ℕ)) (before now start other was is : List ℕ) → IsQueryOf before start was → IsQueryOf now other is → bytes_eq start other ≡ true
    → bytes_eq (query_text (kept_pairs fresh was)) (query_text (kept_pairs fresh is)) ≡ bytes_eq (without_fresh fresh before) (without_fresh fresh now)
by_queries fresh before now start other was is first second same =
    sym (ap₂ bytes_eq (counts fresh before start was first) (counts fresh now other is second ∙ ap (λ s. s ++ query_text (kept_pairs fresh is)) (sym (bytes_one start other same)))
    ∙ eq_both start (query_text (kept_pairs fresh was)) (query_text (kept_pairs fresh is)))

-- ---- what a form sends under get stands in its address

open_mark : (xs : List (List ℕ)) (c : ℕ) (rest : List ℕ) → c ≢ 63 → query_text xs ≡ c ∷ rest → [] ≡ c ∷ rest
open_mark [] c rest other is = is
open_mark (x ∷ xs) c rest other is = absurd (other (sym (head_same 63 c (x ++ next_pairs xs) rest is)))
  where
    head_same : (a b : ℕ) (us vs : List ℕ) → a ∷ us ≡ b ∷ vs → a ≡ b
    head_same a b us vs is = cc

-- starts without a `?` are one where the wholes are
pub behind_starts : (start other : List ℕ) (xs ys : List (List ℕ)) → All (λ b. b ≢ 63) start → All (λ b. b ≢ 63) other → start ++ query_text xs ≡ other ++ query_text ys → query_text xs ≡ query_text ys
behind_starts [] [] xs ys free there is = is
behind_starts [] (c ∷ other) xs ys free there is = let none = open_mark xs c (other ++ query_text ys) (All-head (λ b. b ≢ 63) c other there) is in cc
behind_starts (c ∷ start) [] xs ys free there is = let none = open_mark ys c (start ++ query_text xs) (All-head (λ b. b ≢ 63) c start free) (sym is) in cc
behind_starts (b ∷ start) (c ∷ other) xs ys free there is = behind_starts start other xs ys (All-tail (λ b. b ≢ 63) b start free) (All-tail (λ b. b ≢ 63) c other there) (tail_same b c (start ++ query_text xs) (other ++ query_text ys) is)
  where
    tail_same : (a d : ℕ) (us vs : List ℕ) → a ∷ us ≡ d ∷ vs → us ≡ vs
    tail_same a d us vs is = cc

-- so where two such addresses are alike, what they send is
pub sent_alike : (fresh : List (List ℕ)) (before now start other was is : List ℕ) → IsQueryOf before start was → IsQueryOf now other is → bytes_eq (without_fresh fresh before) (without_fresh fresh now) ≡ true
    → bytes_eq (without_fresh fresh (63 ∷ was)) (without_fresh fresh (63 ∷ is)) ≡ true
sent_alike fresh before now start other was is first second alike =
    let wholes = sym (counts fresh before start was first) ∙ bytes_one (without_fresh fresh before) (without_fresh fresh now) alike ∙ counts fresh now other is second in
    let queries = behind_starts start other (kept_pairs fresh was) (kept_pairs fresh is) first.first second.first wholes in
    bytes_same (without_fresh fresh (63 ∷ was)) (without_fresh fresh (63 ∷ is)) (counts fresh (63 ∷ was) [] was (alone was (own_part before start was first)) ∙ queries ∙ sym (counts fresh (63 ∷ is) [] is (alone is (own_part now other is second))))
  where
    own_part : (address start query : List ℕ) → IsQueryOf address start query → list_all (λ c. not (c == 35)) (63 ∷ query) ≡ true
    own_part address start query is = behind_all start (63 ∷ query) (sym (ap (list_all (λ c. not (c == 35))) is.cut) ∙ is.whole)

    alone : (query : List ℕ) → list_all (λ c. not (c == 35)) (63 ∷ query) ≡ true → IsQueryOf (63 ∷ query) [] query
    alone query whole = record { cut = refl; first = All-nil (λ b. b ≢ 63); whole = whole }

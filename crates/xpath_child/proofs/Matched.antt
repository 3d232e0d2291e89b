-- The test of the first step of a text, and what stands behind it.
use Rattle.std.proofs.Common.{◌≡◌, ◌≢◌, ℕ, suc, ◌+◌, ◌==◌, Bool, true, false, not, ◌&&◌, ◌||◌, cond, nat_lt, List, [], ◌∷◌, ◌++◌, length, take, drop, Some, None, option_map, refl, sym, ◌∙◌, ap, arith, lt-ltb, le-ltb}
use Rattle.std.specs.List.{list_all, before_first, position, position_or_len}
use Rattle.std.proofs.Math.Seq.{take_all, take-append_seam, drop-append_seam}
use Rattle.std.proofs.lemmas.Bool.{and_parts, and_from, not-true, false_from_ne_true, eqb-true, ltb-true, ltb-false}
use Rattle.xpath_child.specs.Fault.{test_part, index_part}
use Rattle.xpath_child.specs.inside.Search.{first_in, left_in}
use Rattle.xpath_child.proofs.Sound.{else_none, cond_is}

-- ---- a byte that doesn't pass is passed over

module _ (p : ℕ → Bool) (c : ℕ) (cs : List ℕ) (fails : p c ≡ false) where
  abbrev at : ℕ
  at = position_or_len p cs

  next : position_or_len p (c ∷ cs) ≡ suc at
  next = ap (λ b. cond (not b) (1 + at) 0) fails ∙ omega arith

  before-next : before_first p (c ∷ cs) ≡ c ∷ before_first p cs
  before-next = ap (λ n. take n (c ∷ cs)) next

  behind-next : option_map (λ i. drop (i + 1) (c ∷ cs)) (position p (c ∷ cs)) ≡ option_map (λ i. drop (i + 1) cs) (position p cs)
  behind-next = ap (λ n. option_map (λ i. drop (i + 1) (c ∷ cs)) (cond (nat_lt n (length (c ∷ cs))) (Some n) None)) next ∙ by (nat_lt at (length cs)) refl
    where
      by : (b : Bool) → nat_lt at (length cs) ≡ b → option_map (λ i. drop (i + 1) (c ∷ cs)) (cond (nat_lt (suc at) (length (c ∷ cs))) (Some (suc at)) None) ≡ option_map (λ i. drop (i + 1) cs) (cond b (Some at) None)
      by true h =
          let inside = ltb-true at (length cs) h in
          let one : suc at + 1 ≡ suc (at + 1) = omega arith in
          ap (λ b. option_map (λ i. drop (i + 1) (c ∷ cs)) (cond b (Some (suc at)) None)) (lt-ltb (suc at) (length (c ∷ cs)) (omega (arith, inside))) ∙ ap (λ n. Some (drop n (c ∷ cs))) one
      by false h =
          let past = ltb-false at (length cs) h in
          ap (λ b. option_map (λ i. drop (i + 1) (c ∷ cs)) (cond b (Some (suc at)) None)) (le-ltb (suc at) (length (c ∷ cs)) (omega (arith, past)))

behind-here : (c : ℕ) (cs : List ℕ) → option_map (λ i. drop (i + 1) (c ∷ cs)) (cond (nat_lt 0 (length (c ∷ cs))) (Some 0) None) ≡ Some cs
behind-here c cs = ap (λ b. option_map (λ i. drop (i + 1) (c ∷ cs)) (cond b (Some 0) None)) (lt-ltb 0 (length (c ∷ cs)) (omega arith))

-- ---- the test of the first step

abbrev pub test_at : List ℕ → List ℕ
test_at text = test_part (first_in text)

abbrev pub is_mark : ℕ → Bool
is_mark c = c == 47 || c == 91

abbrev is_inner : ℕ → Bool
is_inner c = not (c == 47) && not (c == 91)

abbrev ends_test : List ℕ → Bool
ends_test [] = true
ends_test (c ∷ _) = is_mark c

inner : (c : ℕ) → is_inner c ≡ true → ((c == 47) ≡ false) × ((c == 91) ≡ false)
inner c h = let parts = and_parts _ _ h in (not-true _ parts.0, not-true _ parts.1)

outer : (s b : Bool) → (not s && not b) ≡ false → (s || b) ≡ true
outer true b h = refl
outer false true h = refl
outer false false h = sym h

no_mark : (s b : Bool) → (not s && not b) ≡ true → (s || b) ≡ false
no_mark true b h = cc
no_mark false true h = cc
no_mark false false h = refl

test-next : (c : ℕ) (cs : List ℕ) → is_inner c ≡ true → test_at (c ∷ cs) ≡ c ∷ test_at cs
test-next c cs h =
    let marks = inner c h in
    ap test_part (before-next (λ b. b == 47) c cs marks.0) ∙ before-next (λ b. b == 91) c (first_in cs) marks.1

test-ends : (tail : List ℕ) → ends_test tail ≡ true → test_at tail ≡ []
test-ends [] h = refl
test-ends (c ∷ cs) h = by (c == 47) (c == 91) refl refl h
  where
    by : (s b : Bool) → (c == 47) ≡ s → (c == 91) ≡ b → (s || b) ≡ true → test_at (c ∷ cs) ≡ []
    by true b slash bracket h = ap (λ t. test_part (take (cond (not t) (1 + position_or_len (λ b. b == 47) cs) 0) (c ∷ cs))) slash
    by false true slash bracket h =
        ap test_part (before-next (λ b. b == 47) c cs slash)
        ∙ ap (λ t. take (cond (not t) (1 + position_or_len (λ b. b == 91) (first_in cs)) 0) (c ∷ first_in cs)) bracket
    by false false slash bracket h = cc

pub record Split (text : List ℕ) : Type 0 where
  pub tail : List ℕ
  pub is : text ≡ test_at text ++ tail
  pub inner : list_all is_inner (test_at text) ≡ true
  pub ends : ends_test tail ≡ true

split-next : (c : ℕ) (cs : List ℕ) → Split cs → (b : Bool) → is_inner c ≡ b → Split (c ∷ cs)
split-next c cs rest true h =
    let test = test-next c cs h in
    record {
      tail = rest.tail;
      is = ap (λ t. c ∷ t) rest.is ∙ sym (ap (λ t. t ++ rest.tail) test);
      inner = ap (list_all is_inner) test ∙ and_from _ _ h rest.inner;
      ends = rest.ends;
    }
split-next c cs rest false h =
    let ends = outer (c == 47) (c == 91) h in
    let test = test-ends (c ∷ cs) ends in
    record { tail = c ∷ cs; is = sym (ap (λ t. t ++ c ∷ cs) test); inner = ap (list_all is_inner) test; ends = ends }

pub split : (text : List ℕ) → Split text
split [] = record { tail = []; is = refl; inner = refl; ends = refl }
split (c ∷ cs) = split-next c cs (split cs) (is_inner c) refl

-- ---- where it ends

mark-next : (c : ℕ) (cs : List ℕ) → position_or_len is_mark cs ≡ length (test_at cs) → (b : Bool) → is_inner c ≡ b → position_or_len is_mark (c ∷ cs) ≡ length (test_at (c ∷ cs))
mark-next c cs rest true h = next is_mark c cs (no_mark (c == 47) (c == 91) h) ∙ ap suc rest ∙ sym (ap length (test-next c cs h))
mark-next c cs rest false h =
    let ends = outer (c == 47) (c == 91) h in
    ap (λ b. cond (not b) (1 + position_or_len is_mark cs) 0) ends ∙ sym (ap length (test-ends (c ∷ cs) ends))

mark_at : (text : List ℕ) → position_or_len is_mark text ≡ length (test_at text)
mark_at [] = refl
mark_at (c ∷ cs) = mark-next c cs (mark_at cs) (is_inner c) refl

module _ (text : List ℕ) where
  -- the test, cut off there
  pub test_cut : (end : ℕ) → Some end ≡ position is_mark text → take end text ≡ test_at text
  test_cut end h =
      ap (λ n. take n text) (sym (cond_is _ _ _ (sym h)) ∙ mark_at text) ∙ ap (take (length (test_at text))) (split text).is
      ∙ take-append_seam (test_at text) (split text).tail

  -- a test up to the end
  pub test_whole : None ≡ position is_mark text → text ≡ test_at text
  test_whole h =
      let long = ltb-false _ _ (else_none _ _ h) in
      sym (take_all (length (test_at text)) text (omega (arith, long, mark_at text))) ∙ ap (take (length (test_at text))) (split text).is
      ∙ take-append_seam (test_at text) (split text).tail

-- ---- what stands behind it

past : (test tail : List ℕ) → list_all is_inner test ≡ true → (index_part (first_in (test ++ tail)) ≡ index_part (first_in tail)) × (left_in (test ++ tail) ≡ left_in tail)
past [] tail h = (refl, refl)
past (c ∷ cs) tail h =
    let parts = and_parts _ _ h in
    let marks = inner c parts.0 in
    let rest = past cs tail parts.1 in (
      ap index_part (before-next (λ b. b == 47) c (cs ++ tail) marks.0) ∙ behind-next (λ b. b == 91) c (first_in (cs ++ tail)) marks.1 ∙ rest.0,
      behind-next (λ b. b == 47) c (cs ++ tail) marks.0 ∙ rest.1,
    )

module _ (text : List ℕ) (end : ℕ) (ends : end ≡ length (test_at text)) where
  rest_is : drop end text ≡ (split text).tail
  rest_is = ap (λ n. drop n text) ends ∙ ap (λ t. drop (length (test_at text)) t) (split text).is ∙ drop-append_seam (test_at text) (split text).tail

  index_behind : (tail : List ℕ) → drop end text ≡ tail → index_part (first_in text) ≡ index_part (first_in tail)
  index_behind tail is = ap (λ t. index_part (first_in t)) (split text).is ∙ (past (test_at text) (split text).tail (split text).inner).0 ∙ ap (λ t. index_part (first_in t)) (sym rest_is ∙ is)

  left_behind : (tail : List ℕ) → drop end text ≡ tail → left_in text ≡ left_in tail
  left_behind tail is = ap left_in (split text).is ∙ (past (test_at text) (split text).tail (split text).inner).1 ∙ ap left_in (sym rest_is ∙ is)

  pub at_slash : (more : List ℕ) → drop end text ≡ 47 ∷ more → (index_part (first_in text) ≡ None) × (left_in text ≡ Some more)
  at_slash more is = (index_behind (47 ∷ more) is, left_behind (47 ∷ more) is ∙ behind-here 47 more)

  pub at_bracket : (more : List ℕ) → drop end text ≡ 91 ∷ more → (index_part (first_in text) ≡ Some (first_in more)) × (left_in text ≡ left_in more)
  at_bracket more is = (
    index_behind (91 ∷ more) is ∙ ap index_part (before-next (λ b. b == 47) 91 more refl) ∙ behind-here 91 (first_in more),
    left_behind (91 ∷ more) is ∙ behind-next (λ b. b == 47) 91 more refl,
  )

  -- no other byte stands there
  pub at_mark : (c : ℕ) (more : List ℕ) → drop end text ≡ c ∷ more → c ≢ 91 → c ≡ 47
  at_mark c more is other =
      let marks : (c == 47 || c == 91) ≡ true = ap ends_test (sym is ∙ rest_is) ∙ (split text).ends in
      eqb-true c 47 (by (c == 47) (c == 91) marks (false_from_ne_true _ (λ h. other (eqb-true c 91 h))))
    where
      by : (s b : Bool) → (s || b) ≡ true → b ≡ false → s ≡ true
      by true b h o = refl
      by false b h o = sym o ∙ h

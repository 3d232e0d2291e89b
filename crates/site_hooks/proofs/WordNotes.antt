-- The paths of one word of numbers are noted, one after another.
use Rattle.std.proofs.Common.{◌≡◌, ◌≢◌, ◌⊎◌, ℕ, ◌+◌, ◌*◌, ◌/◌, ◌%◌, ◌^◌, ◌<◌, ◌≤◌, ◌==◌, ◌&&◌, ltb, inl, inr, cond, List, length, get_or, set, refl, sym, ◌∙◌, ap, arith, w64, subst}
use Rattle.std.specs.Prelude.{bit_and, bit_or}
use Rattle.std.specs.Int.{bit_at, bit_not}
use Rattle.std.proofs.lemmas.Bool.{cases_lt, cases_eq, eqb-true, eq-eqb, lt-ltb, false_from_ne_true}
use Rattle.std.proofs.lemmas.List.{get_or-set_same, get_or-set_other, get_or_past}
use Rattle.std.proofs.lemmas.Nat.{and_le_l}
use Rattle.std.proofs.lemmas.Nat.Bits.{bit_at-lt, bit_at_or, bit_at_and, bit_at_not, bit_at_set_other}
use Rattle.xpath_child.specs.declared.path.Found.{Found}
use Rattle.xpath_child.specs.declared.path.Found.TheVariants as found
use Rattle.site_hooks.specs.Findings.{found_by, noted}
use Rattle.site_hooks.specs.Sets.{Has, IsOfBits}
use Rattle.site_hooks.specs.declared.findings.Findings.{Findings}

-- ---- what is settled

-- a number more in one word
pub has_more : (words : List ℕ) (index bit : ℕ) → bit < 64 → index < length words → (k : ℕ) → Has (set words index (bit_or (get_or words index 0) (1 * 2 ^ bit % 2 ^ 64))) k → Has words k ⊎ (k ≡ index * 64 + bit)
unfolding Has
has_more words index bit small less k has =
    let word = bit_or (get_or words index 0) (1 * 2 ^ bit % 2 ^ 64) in
    elim (cases_eq (k / 64) index) [
      | inl same ↦ elim (cases_eq (k % 64) bit) [
        | inl also ↦ inr (omega (arith, same, also))
        | inr other ↦ inl (
            ap (λ j. bit_at (get_or words j 0) (k % 64)) same ∙ sym (bit_at_set_other w64 (get_or words index 0) bit small (k % 64) other)
            ∙ ap (λ w. bit_at w (k % 64)) (sym (get_or-set_same words index word 0 less)) ∙ ap (λ j. bit_at (get_or (set words index word) j 0) (k % 64)) (sym same) ∙ has
            )
      ]
      | inr other ↦ inl (ap (λ w. bit_at w (k % 64)) (sym (get_or-set_other words index (k / 64) word 0 other)) ∙ has)
    ]

module _ (settled : List ℕ) (items : List Found) (n at : ℕ) (less : n < length items) (were : (k : ℕ) → Has settled k → get_or items k found.Missing ≡ found.Several)
    (f : Found) (is : f ≡ noted at (get_or items n found.Missing)) where
  pub stays_several : (k : ℕ) → Has settled k → get_or (set items n f) k found.Missing ≡ found.Several
  stays_several k has = elim (cases_eq k n) [
    | inl same ↦
        ap (λ j. get_or (set items n f) j found.Missing) same ∙ get_or-set_same items n f found.Missing less ∙ is
        ∙ ap (noted at) (ap (λ j. get_or items j found.Missing) (sym same) ∙ were k has)
    | inr other ↦ get_or-set_other items n k f found.Missing other ∙ were k has
  ]

  pub more_several : (new : List ℕ) → f ≡ found.Several → ((k : ℕ) → Has new k → Has settled k ⊎ (k ≡ n)) → (k : ℕ) → Has new k → get_or (set items n f) k found.Missing ≡ found.Several
  more_several new several more k has = elim (more k has) [
    | inl was ↦ stays_several k was
    | inr now ↦ ap (λ j. get_or (set items n f) j found.Missing) now ∙ get_or-set_same items n f found.Missing less ∙ several
  ]

-- ---- what may have found something

-- the numbers of one word more
pub reaches_more : (words : List ℕ) (index word bits : ℕ) → word ≡ get_or words index 0 → index < length words → (k : ℕ) → Has words k ⊎ IsOfBits index bits k → Has (set words index (bit_or word bits)) k
unfolding Has
reaches_more words index word bits is less k h = elim (cases_eq (k / 64) index) [
  | inl same ↦
      let now : bit_at (get_or (set words index (bit_or word bits)) (k / 64) 0) (k % 64) ≡ bit_at (bit_or word bits) (k % 64) =
      ap (λ j. bit_at (get_or (set words index (bit_or word bits)) j 0) (k % 64)) same ∙ ap (λ w. bit_at w (k % 64)) (get_or-set_same words index (bit_or word bits) 0 less) in
      let either = bit_at_or word bits (k % 64) in
      elim h [
        | inl was ↦ omega (arith, now, either, bit_at-lt bits (k % 64), ap (λ w. bit_at w (k % 64)) is ∙ ap (λ j. bit_at (get_or words j 0) (k % 64)) (sym same) ∙ was)
        | inr more ↦ omega (arith, now, either, bit_at-lt word (k % 64), more.1)
      ]
  | inr other ↦ elim h [
    | inl was ↦ ap (λ w. bit_at w (k % 64)) (get_or-set_other words index (k / 64) (bit_or word bits) 0 other) ∙ was
    | inr more ↦ absurd (other (sym more.0))
  ]
]

pub still_missing : (reached : List ℕ) (items : List Found) (n : ℕ) (f : Found) → ((k : ℕ) → ¬ (Has reached k) → get_or items k found.Missing ≡ found.Missing) → Has reached n
    → (k : ℕ) → ¬ (Has reached k) → get_or (set items n f) k found.Missing ≡ found.Missing
still_missing reached items n f were has k not = elim (cases_eq k n) [
  | inl same ↦ absurd (not (subst (Has reached) (sym same) has))
  | inr other ↦ get_or-set_other items n k f found.Missing other ∙ were k not
]

-- ---- all of a word but those that are left

pub record NotedBut (index bits at left : ℕ) (old new : Findings) : Type 0 where
  pub len : length new.found.items ≡ length old.found.items
  pub among : (number : ℕ) → IsOfBits index left number → IsOfBits index bits number
  pub waits : (number : ℕ) → IsOfBits index left number → found_by new number ≡ found_by old number
  pub only : (number : ℕ) → (found_by new number ≡ found_by old number) ⊎ (IsOfBits index bits number × (found_by new number ≡ noted at (found_by old number)))
  pub each : (number : ℕ) → IsOfBits index bits number → number < length old.found.items
      → IsOfBits index left number ⊎ ((found_by new number ≡ found.Several) ⊎ (found_by new number ≡ noted at (found_by old number)))

-- at first all are left but the settled ones
pub none_noted : (index bits at settled : ℕ) (old : Findings) → settled ≡ get_or old.settled.items index 0 → settled < 2 ^ 64 → NotedBut index bits at (bit_and bits (bit_not w64 settled)) old old
unfolding Has
none_noted index bits at settled old is fits = record {
  len = refl;
  among = λ number h. (h.0, omega (arith, h.1, bit_at_and bits (bit_not w64 settled) (number % 64), bit_at-lt bits (number % 64)));
  waits = λ number h. refl;
  only = λ number. inl refl;
  each = λ number h less. elim (cases_eq (bit_at settled (number % 64)) 1) [
    | inl set ↦ inr (inl (old.several number (ap (λ w. bit_at w (number % 64)) (ap (λ j. get_or old.settled.items j 0) (sym h.0) ∙ sym is) ∙ set)))
    | inr not ↦ inl (
      h.0,
      omega (arith, h.1, not, bit_at-lt settled (number % 64), bit_at_and bits (bit_not w64 settled) (number % 64), bit_at_not w64 settled (number % 64) fits (omega arith)),
    )
  ];
}

-- what was found stays while more may be found
pub same_found : (index bits at left : ℕ) (old mid new : Findings) → NotedBut index bits at left old mid → new.found ≡ mid.found → NotedBut index bits at left old new
same_found index bits at left old mid new before is = record {
  len = ap (λ f. length f.items) is ∙ before.len;
  among = before.among;
  waits = λ k h. ap (λ f. get_or f.items k found.Missing) is ∙ before.waits k h;
  only = λ k. elim (before.only k) [
    | inl same ↦ inl (ap (λ f. get_or f.items k found.Missing) is ∙ same)
    | inr more ↦ inr (more.0, ap (λ f. get_or f.items k found.Missing) is ∙ more.1)
  ];
  each = λ k of less. elim (before.each k of less) [
    | inl waits ↦ inl waits
    | inr done ↦ inr (elim done [
      | inl several ↦ inl (ap (λ f. get_or f.items k found.Missing) is ∙ several)
      | inr once ↦ inr (ap (λ f. get_or f.items k found.Missing) is ∙ once)
    ])
  ];
}

-- those that are left behind one are left before it
pub left_before : (left mask i : ℕ) → bit_at (bit_and left mask) i ≡ 1 → bit_at left i ≡ 1
left_before left mask i h = omega (arith, h, bit_at_and left mask i, bit_at-lt left i, bit_at-lt mask i)

-- one more
module _ (index bits at left next bit : ℕ) (old mid new : Findings) (before : NotedBut index bits at left old mid) (small : bit < 64) (there : bit_at left bit ≡ 1) (gone : bit_at next bit ≡ 0)
    (others : (i : ℕ) → i < 64 → i ≢ bit → bit_at next i ≡ bit_at left i) (len : length new.found.items ≡ length mid.found.items)
    (updates : (number : ℕ) → found_by new number ≡ cond ((index * 64 + bit == number) && ltb number (length mid.found.items)) (noted at (found_by mid number)) (found_by mid number)) where
  elsewhere : (number : ℕ) → (index * 64 + bit ≢ number) → found_by new number ≡ found_by mid number
  elsewhere number other =
      updates number ∙ ap (λ b. cond (b && ltb number (length mid.found.items)) (noted at (found_by mid number)) (found_by mid number)) (false_from_ne_true _ (λ same. other (eqb-true _ _ same)))

  past : (number : ℕ) → length mid.found.items ≤ number → found_by new number ≡ found_by mid number
  past number far = get_or_past new.found.items number found.Missing (omega (arith, far, len)) ∙ sym (get_or_past mid.found.items number found.Missing far)

  of_left : (number : ℕ) → index * 64 + bit ≡ number → IsOfBits index left number
  of_left number is = (omega (arith, is, small), ap (bit_at left) (omega (arith, is, small)) ∙ there)

  here : (number : ℕ) → index * 64 + bit ≡ number → number < length mid.found.items → found_by new number ≡ noted at (found_by old number)
  here number is less =
      updates number ∙ ap (λ b. cond (b && ltb number (length mid.found.items)) (noted at (found_by mid number)) (found_by mid number)) (eq-eqb _ _ is)
      ∙ ap (λ b. cond b (noted at (found_by mid number)) (found_by mid number)) (lt-ltb number (length mid.found.items) less) ∙ ap (noted at) (before.waits number (of_left number is))

  -- those that are still left
  still_left : (number : ℕ) → IsOfBits index next number → (index * 64 + bit ≢ number) × IsOfBits index left number
  still_left number h =
      let other : number % 64 ≢ bit = λ same. omega (arith, h.1, ap (bit_at next) same ∙ gone) in
      (λ is. other (omega (arith, is, small)), (h.0, sym (others (number % 64) (omega arith) other) ∙ h.1))

  pub next_noted : NotedBut index bits at next old new
  next_noted = record {
    len = len ∙ before.len;
    among = λ number h. before.among number (still_left number h).1;
    waits = λ number h. let both = still_left number h in elsewhere number both.0 ∙ before.waits number both.1;
    only = λ number. elim (cases_eq (index * 64 + bit) number) [
      | inl is ↦ elim (cases_lt number (length mid.found.items)) [
        | inl less ↦ inr (before.among number (of_left number is), here number is less)
        | inr far ↦ inl (past number far ∙ before.waits number (of_left number is))
      ]
      | inr other ↦ elim (before.only number) [
        | inl same ↦ inl (elsewhere number other ∙ same)
        | inr more ↦ inr (more.0, elsewhere number other ∙ more.1)
      ]
    ];
    each = λ number of_bits less. elim (cases_eq (index * 64 + bit) number) [
      | inl is ↦ inr (inr (here number is (omega (arith, less, before.len))))
      | inr other ↦ elim (before.each number of_bits less) [
        | inl waits ↦ inl (waits.0, others (number % 64) (omega arith) (λ same. other (omega (arith, waits.0, same))) ∙ waits.1)
        | inr done ↦ elim done [
          | inl several ↦ inr (inl (elsewhere number other ∙ several))
          | inr once ↦ inr (inr (elsewhere number other ∙ once))
        ]
      ]
    ];
  }

-- and less from one to the next
pub less_left : (left mask bit : ℕ) → bit_at left bit ≡ 1 → bit_at (bit_and left mask) bit ≡ 0 → bit_and left mask < left
less_left left mask bit there gone = elim (cases_lt (bit_and left mask) left) [
  | inl less ↦ less
  | inr past ↦
      let same : bit_and left mask ≡ left = omega (arith, past, and_le_l left mask) in
      absurd (omega (arith, gone, sym (ap (λ w. bit_at w bit) same) ∙ refl, there, ap (λ w. bit_at w bit) same))
]

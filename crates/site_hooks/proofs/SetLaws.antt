-- Words of bits, one more at a time.
use Rattle.std.proofs.Common.{◌≡◌, ℕ, ◌+◌, ◌-◌, ◌*◌, ◌/◌, ◌%◌, ◌^◌, ◌<◌, ◌≤◌, ◌⊎◌, inl, inr, List, [], ◌∷◌, ◌++◌, length, take, set, get_or, replicate, Result, Ok, Err, IfOk, refl, sym, ◌∙◌, ap, subst, arith}
use Rattle.std.specs.Prelude.{bit_and, bit_or, ◌↔◌, min, max}
use Rattle.std.specs.Int.{bit_at}
use Rattle.std.specs.List.{Contains}
use Rattle.std.proofs.lemmas.Bool.{cases_eq, cases_lt}
use Rattle.std.proofs.lemmas.Nat.Bits.{bit_at_or, bit_at_and, bit_at-zero, bit_at-lt, bit_at-pow_same, bit_at-pow_other, bit_at_ones}
use Rattle.std.proofs.lemmas.List.{get_or_past, take_more, get_or-set_same, get_or-set_other, length-set, get_or_default, get_or-replicate, length-replicate}
use Rattle.std.proofs.lemmas.Nat.{pow_below}
use Rattle.std.proofs.lemmas.List.Elements.{Contains-push_cases, Contains-append_left, Contains-push}
use Rattle.site_hooks.specs.Sets.{Has, IsOfWord, IsOfWords, AddsSome}
use Rattle.site_hooks.specs.declared.number_set.Word.{Word}
use Rattle.site_hooks.proofs.Each.{among_more, among_next}

one_of : (a b c m : ℕ) → a < 2 → b < 2 → c < 2 → m ≡ max a (min b c) → ((m ≡ 1) ↔ ((a ≡ 1) ⊎ ((b ≡ 1) × (c ≡ 1))))
one_of a b c m small_a small_b small_c is = (
  λ h. elim (cases_eq a 1) [
    | inl one ↦ inl one
    | inr other ↦ inr (omega arith, omega arith)
  ],
  λ h. elim h [
    | inl one ↦ omega arith
    | inr both ↦ omega (arith, both.0, both.1)
  ],
)

-- where all words are 0, no number is in the set
pub none_has : (words : List ℕ) → ((j : ℕ) → j < length words → get_or words j 0 ≡ 0) → (k : ℕ) → ¬ (Has words k)
unfolding Has
none_has words zeros k has =
    let zero_word : get_or words (k / 64) 0 ≡ 0 = elim (cases_lt (k / 64) (length words)) [ inl less ↦ zeros (k / 64) less | inr past ↦ get_or_past words (k / 64) 0 past ] in
    let none : bit_at (get_or words (k / 64) 0) (k % 64) ≡ 0 = ap (λ w. bit_at w (k % 64)) zero_word ∙ bit_at-zero (k % 64) in
    omega (arith, none, has)

-- one word was joined
pub added_word : (word : Word) (others old new : List ℕ)
    → get_or new word.index 0 ≡ bit_or (get_or old word.index 0) (bit_and (get_or others word.index 0) word.bits)
    → ((j : ℕ) → (j ≡ word.index → ⊥) → get_or new j 0 ≡ get_or old j 0) → AddsSome (λ k. IsOfWord k word) others old new
unfolding Has
added_word word others old new here there k = elim (cases_eq (k / 64) word.index) [
  | inl same ↦
      let b : ℕ = k % 64 in
      let is : bit_at (get_or new (k / 64) 0) b ≡ max (bit_at (get_or old (k / 64) 0) b) (min (bit_at (get_or others (k / 64) 0) b) (bit_at word.bits b)) =
      ap (λ w. bit_at (get_or new w 0) b) same ∙ ap (λ w. bit_at w b) here ∙ bit_at_or (get_or old word.index 0) (bit_and (get_or others word.index 0) word.bits) b
      ∙ ap (max (bit_at (get_or old word.index 0) b)) (bit_at_and (get_or others word.index 0) word.bits b)
      ∙ ap (λ w. max (bit_at (get_or old w 0) b) (min (bit_at (get_or others w 0) b) (bit_at word.bits b))) (sym same) in
      let told = one_of _ _ _ _ (bit_at-lt (get_or old (k / 64) 0) b) (bit_at-lt (get_or others (k / 64) 0) b) (bit_at-lt word.bits b) is in (
        λ h. elim (told.0 h) [ inl was ↦ inl was | inr both ↦ inr (both.0, (sym same, both.1)) ],
        λ h. told.1 (elim h [ inl was ↦ inl was | inr both ↦ inr (both.0, both.1.1) ]),
      )
  | inr other ↦
      let is = ap (λ w. bit_at w (k % 64)) (there (k / 64) other) in (
        λ h. inl (sym is ∙ h),
        λ h. elim h [ inl was ↦ is ∙ was | inr both ↦ absurd (other (sym both.1.0)) ],
      )
]

-- one past the last
pub past_word : (word : Word) (others old : List ℕ) → length others ≤ word.index → AddsSome (λ k. IsOfWord k word) others old old
unfolding Has
past_word word others old past k = (
  λ h. inl h,
  λ h. elim h [
    | inl was ↦ was
    | inr both ↦ absurd (omega (arith, both.0, ap (λ w. bit_at w (k % 64)) (get_or_past others (k / 64) 0 (omega (arith, past, both.1.0))) ∙ bit_at-zero (k % 64)))
  ],
)

module _ (words : List Word) (i : ℕ) (word : Word) (less : i < length words) (is : word ≡ get_or words i word) where
  pub earlier_or_now : (k : ℕ) → IsOfWords (take (i + 1) words) k → IsOfWords (take i words) k ⊎ IsOfWord k word
  earlier_or_now k (other, among, has) = elim (Contains-push_cases (take i words) (get_or words i word) other (subst (λ ws. Contains ws other) (take_more words i word less) among)) [
    | inl earlier ↦ inl (other, earlier, has)
    | inr now ↦ inr (subst (IsOfWord k) (sym (is ∙ now)) has)
  ]

  pub added_more : (others old mid new : List ℕ) → AddsSome (IsOfWords (take i words)) others old mid → AddsSome (λ k. IsOfWord k word) others mid new
      → AddsSome (IsOfWords (take (i + 1) words)) others old new
  added_more others old mid new first second k = (
    λ h. elim ((second k).0 h) [
      | inl was ↦ elim ((first k).0 was) [
        | inl before ↦ inl before
        | inr both ↦ let (other, among, has) = both.1 in inr (both.0, (other, among_more words i other less among, has))
      ]
      | inr both ↦ inr (both.0, (word, among_next words i word less is, both.1))
    ],
    λ h. (second k).1 (elim h [
      | inl was ↦ inl ((first k).1 (inl was))
      | inr both ↦ elim (earlier_or_now k both.1) [
        | inl earlier ↦ inl ((first k).1 (inr (both.0, earlier)))
        | inr now ↦ inr (both.0, now)
      ]
    ]),
  )

-- ---- one number more

pub only_bit : (n k : ℕ) (word : Word) → word.index ≡ n / 64 → word.bits ≡ 2 ^ (n % 64) → (IsOfWord k word ↔ (k ≡ n))
only_bit n k word index bits = (
  λ h. elim (cases_eq (k % 64) (n % 64)) [
    | inl same ↦ omega (arith, index, h.0, same)
    | inr other ↦ absurd (omega (arith, h.1, ap (λ b. bit_at b (k % 64)) bits ∙ bit_at-pow_other (n % 64) (k % 64) other))
  ],
  λ is. (index ∙ ap (λ m. m / 64) (sym is), ap (λ b. bit_at b (k % 64)) bits ∙ ap (λ m. bit_at (2 ^ (n % 64)) (m % 64)) is ∙ bit_at-pow_same (n % 64)),
)

pub low_bit : (n : ℕ) → 1 * 2 ^ (n % 64) % 2 ^ 64 ≡ 2 ^ (n % 64)
low_bit n = let less : 2 ^ (n % 64) < 2 ^ 64 = pow_below (n % 64) 64 (omega arith) in omega (arith, less)

-- a word more
pub pushed : (words : List Word) (word : Word) (n k : ℕ) → (IsOfWord k word ↔ (k ≡ n)) → (IsOfWords (words ++ word ∷ []) k ↔ (IsOfWords words k ⊎ (k ≡ n)))
pushed words word n k told = (
  λ (other, among, has). elim (Contains-push_cases words word other among) [
    | inl earlier ↦ inl (other, earlier, has)
    | inr now ↦ inr (told.0 (subst (IsOfWord k) (sym now) has))
  ],
  λ h. elim h [
    | inl was ↦ let (other, among, has) = was in (other, Contains-append_left words (word ∷ []) other among, has)
    | inr is ↦ (word, Contains-push words word, told.1 is)
  ],
)

either_bit : (a c m : ℕ) → a < 2 → c < 2 → m ≡ max a c → ((m ≡ 1) ↔ ((a ≡ 1) ⊎ (c ≡ 1)))
either_bit a c m small_a small_c is = (
  λ h. elim (cases_eq a 1) [ inl one ↦ inl one | inr other ↦ inr (omega arith) ],
  λ h. elim h [ inl one ↦ omega arith | inr one ↦ omega arith ],
)

-- bits more in one word
module _ (words : List Word) (at : ℕ) (last new : Word) (bits n k : ℕ) (less : at < length words) (is : get_or words at last ≡ last)
    (index : new.index ≡ last.index) (joined : new.bits ≡ bit_or last.bits bits) (index_is : last.index ≡ n / 64) (bits_are : bits ≡ 2 ^ (n % 64)) where
  told : (new_has : ℕ) → new_has ≡ bit_at new.bits (k % 64) → ((new_has ≡ 1) ↔ ((bit_at last.bits (k % 64) ≡ 1) ⊎ (bit_at bits (k % 64) ≡ 1)))
  told new_has same = either_bit (bit_at last.bits (k % 64)) (bit_at bits (k % 64)) new_has (bit_at-lt last.bits (k % 64)) (bit_at-lt bits (k % 64))
      (same ∙ ap (λ b. bit_at b (k % 64)) joined ∙ bit_at_or last.bits bits (k % 64))

  one : IsOfWord k (record { index = last.index; bits = bits }) ↔ (k ≡ n)
  one = only_bit n k (record { index = last.index; bits = bits }) index_is bits_are

  here : Contains (set words at new) new
  here = (at, omega (arith, less, length-set words at new), get_or-set_same words at new new less)

  pub widened : IsOfWords (set words at new) k ↔ (IsOfWords words k ⊎ (k ≡ n))
  widened = (
    λ (word, (j, inside, same), has). elim (cases_eq j at) [
      | inl now ↦
          let is_new : new ≡ word = sym (get_or-set_same words at new word less) ∙ ap (λ i. get_or (set words at new) i word) (sym now) ∙ same in
          let has_new : IsOfWord k new = subst (IsOfWord k) (sym is_new) has in
          elim ((told (bit_at new.bits (k % 64)) refl).0 has_new.1) [
            | inl was ↦ inl (last, (at, less, is), (sym index ∙ has_new.0, was))
            | inr fresh ↦ inr (one.0 (sym index ∙ has_new.0, fresh))
          ]
      | inr other ↦ inl (word, (j, omega (arith, inside, length-set words at new), sym (get_or-set_other words at j new word other) ∙ same), has)
    ],
    λ h. elim h [
      | inl was ↦
          let (word, (j, inside, same), has) = was in
          elim (cases_eq j at) [
            | inl now ↦
                let is_last : last ≡ word = sym is ∙ get_or_default words at last word less ∙ ap (λ i. get_or words i word) (sym now) ∙ same in
                let has_last : IsOfWord k last = subst (IsOfWord k) (sym is_last) has in
                (new, here, (index ∙ has_last.0, (told (bit_at new.bits (k % 64)) refl).1 (inl has_last.1)))
            | inr other ↦ (word, (j, omega (arith, inside, length-set words at new), get_or-set_other words at j new word other ∙ same), has)
          ]
      | inr fresh ↦ let both = one.1 fresh in (new, here, (index ∙ both.0, (told (bit_at new.bits (k % 64)) refl).1 (inr both.1)))
    ],
  )

-- where all words are full, all numbers are in the set
pub all_have : (words : List ℕ) → ((j : ℕ) → j < length words → get_or words j 0 ≡ 2 ^ 64 - 1) → (k : ℕ) → k < 64 * length words → Has words k
unfolding Has
all_have words full k less = ap (λ w. bit_at w (k % 64)) (full (k / 64) (omega (arith, less))) ∙ bit_at_ones 64 (k % 64) (omega arith)

-- ---- so many words alike

pub if_ok : {X E : Type 0} {P Q : X → Type 0} (result : Result X E) → ((x : X) → P x → Q x) → IfOk result P → IfOk result Q
if_ok (Ok x) f h = f x h
if_ok (Err e) f h = tt

pub zeros_have : (words : List ℕ) (n : ℕ) → words ≡ replicate n 0 → (k : ℕ) → ¬ (Has words k)
zeros_have words n are = none_has words (λ j less. ap (λ ws. get_or ws j 0) are ∙ get_or-replicate n j 0 0 (omega (arith, less, ap length are, length-replicate {A = ℕ} n 0)))

pub ones_have : (words : List ℕ) (n : ℕ) → words ≡ replicate n (2 ^ 64 - 1) → (k : ℕ) → k < 64 * n → Has words k
ones_have words n are k less =
    all_have words (λ j inside. ap (λ ws. get_or ws j 0) are ∙ get_or-replicate n j (2 ^ 64 - 1) 0 (omega (arith, inside, ap length are, length-replicate {A = ℕ} n (2 ^ 64 - 1)))) k
    (omega (arith, less, ap length are, length-replicate {A = ℕ} n (2 ^ 64 - 1)))

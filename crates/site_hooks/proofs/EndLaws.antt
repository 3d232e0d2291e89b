-- A node is noted for the paths that lead to it and end there.
use Rattle.std.proofs.Common.{◌≡◌, ◌⊎◌, ℕ, suc, ◌+◌, ◌/◌, ◌%◌, ◌<◌, ◌≤◌, inl, inr, List, [], length, take, get_or, slice_get, Some, None, IsSomeAnd, sym, ◌∙◌, ap, subst, arith}
use Rattle.std.specs.Prelude.{bit_and, ◌↔◌}
use Rattle.std.specs.Int.{bit_at}
use Rattle.std.specs.List.{Contains}
use Rattle.std.proofs.lemmas.Bool.{cases_lt}
use Rattle.std.proofs.lemmas.List.{get_or_past, take_all}
use Rattle.std.proofs.lemmas.Nat.Bits.{bit_at_and, bit_at-lt, bit_at-zero}
use Rattle.page_tree.specs.Limits.{nodes}
use Rattle.page_tree.specs.Number.{place_numbered}
use Rattle.xpath_child.specs.Reaches.{Reaches}
use Rattle.xpath_child.specs.declared.path.Found.TheVariants as variant
use Rattle.site_hooks.specs.Findings.{found_by, noted, IsNoted, Grows}
use Rattle.site_hooks.specs.Levels.{AreLevels}
use Rattle.site_hooks.specs.Sets.{Has, IsOfBits, IsOfWord, IsOfWords, IsIn}
use Rattle.site_hooks.specs.Walk.{AreAlive, EndsFound}
use Rattle.site_hooks.specs.declared.findings.Findings.{Findings}
use Rattle.site_hooks.specs.declared.levels.Level.{Level}
use Rattle.site_hooks.specs.declared.number_set.Word.{Word}
use Rattle.site_hooks.specs.declared.walk.Walk.{Walk}
use Rattle.site_hooks.proofs.NoteLaws.{each_grows, grows_more, noted_there}
use Rattle.site_hooks.proofs.SetLaws.{earlier_or_now}

-- the node was noted for those that have a number in these words
abbrev pub NotedFor : Walk → ℕ → List ℕ → List Word → Findings → Type 0
NotedFor walk n alive words found = (k : ℕ) → IsOfWords words k → Has alive k → IsNoted walk.page.now (found_by found k) (place_numbered n walk.page.now)

-- at no level
pub ends_none : (walk : Walk) (alive at : List ℕ) (found : Findings) → AreLevels walk.levels.now walk.paths.now → slice_get walk.levels.now (length at) ≡ None → EndsFound walk alive at found
ends_none walk alive at found are past = λ number has is. absurd (subst (λ o. IsSomeAnd o (λ level. IsIn level.ends number)) past ((are.ends (length at) number).1 is))

module _ (walk : Walk) (n : ℕ) (alive : List ℕ) (level : Level) (words : List Word) (are : AreLevels walk.levels.now walk.paths.now)
    (lead : AreAlive walk (place_numbered n walk.page.now) alive) (there : slice_get walk.levels.now (length (place_numbered n walk.page.now)) ≡ Some level)
    (of_words : (k : ℕ) → IsIn level.ends k ↔ IsOfWords words k) where
  abbrev pub place : List ℕ
  place = place_numbered n walk.page.now

  ends_at : (k : ℕ) → IsOfWords words k → length (get_or walk.paths.now k []) ≡ suc (length place)
  ends_at k among = (are.ends (length place) k).0 (subst (λ o. IsSomeAnd o (λ level. IsIn level.ends k)) (sym there) ((of_words k).1 among))

  ends_in : (k : ℕ) → length (get_or walk.paths.now k []) ≡ suc (length place) → IsOfWords words k
  ends_in k is = (of_words k).0 (subst (λ o. IsSomeAnd o (λ level. IsIn level.ends k)) there ((are.ends (length place) k).1 is))

  reaches : (k : ℕ) → IsOfWords words k → Has alive k → Reaches (get_or walk.paths.now k []) walk.page.now place
  reaches k among has =
      subst (λ path. Reaches path walk.page.now place) (take_all (suc (length place)) (get_or walk.paths.now k []) (omega (arith, ends_at k among))) ((lead k).0 has)

  inside : (k : ℕ) → IsOfWords words k → k < length walk.paths.now
  inside k among = elim (cases_lt k (length walk.paths.now)) [
    | inl less ↦ less
    | inr past ↦ absurd (omega (arith, ends_at k among, ap length (get_or_past walk.paths.now k [] past)))
  ]

  pub all_ends : (found : Findings) → NotedFor walk n alive words found → EndsFound walk alive place found
  all_ends found for_all = λ number has is. for_all number (ends_in number is) has

  -- one word more
  module _ (i : ℕ) (word : Word) (first old : Findings) (less : i < length words) (is : word ≡ get_or words i word) (before : Grows walk.page.now walk.paths.now first old)
      (noted_before : NotedFor walk n alive (take i words) old) where
    among : Contains words word
    among = (i, less, sym is)

    word_more : (new : Findings) → Grows walk.page.now walk.paths.now old new
        → ((k : ℕ) → IsOfWord k word → Has alive k → IsNoted walk.page.now (found_by new k) place) → NotedFor walk n alive (take (i + 1) words) new
    word_more new grows here = λ k of has. elim (earlier_or_now words i word less is k of) [
      | inl earlier ↦ grows.kept k place (noted_before k earlier has)
      | inr now ↦ here k now has
    ]

    -- no path with a number of the word leads there
    pub none_there : length alive ≤ word.index → NotedFor walk n alive (take (i + 1) words) old
    unfolding Has
    none_there past = λ k of has. elim (earlier_or_now words i word less is k of) [
      | inl earlier ↦ noted_before k earlier has
      | inr now ↦ absurd (omega (arith, ap (λ w. bit_at w (k % 64)) (get_or_past alive (k / 64) 0 (omega (arith, past, now.0))) ∙ bit_at-zero (k % 64), has))
    ]

    module _ (others : ℕ) (new : Findings) (within : n < nodes walk.page.now) (others_are : others ≡ get_or alive word.index 0) (many : length old.found.items ≡ length walk.paths.now)
        (only : (k : ℕ) → (found_by new k ≡ found_by old k) ⊎ (IsOfBits word.index (bit_and others word.bits) k × (found_by new k ≡ noted n (found_by old k))))
        (each : (k : ℕ) → IsOfBits word.index (bit_and others word.bits) k → k < length old.found.items → (found_by new k ≡ variant.Several) ⊎ (found_by new k ≡ noted n (found_by old k))) where
      has_both : (k : ℕ) → IsOfBits word.index (bit_and others word.bits) k → IsOfWords words k × Has alive k
      unfolding Has
      has_both k h =
          let bits = bit_at_and others word.bits (k % 64) in (
            (word, among, (h.0, omega (arith, h.1, bits, bit_at-lt others (k % 64), bit_at-lt word.bits (k % 64)))),
            ap (λ w. bit_at w (k % 64)) (ap (λ j. get_or alive j 0) (sym h.0) ∙ sym others_are) ∙ omega (arith, h.1, bits, bit_at-lt others (k % 64), bit_at-lt word.bits (k % 64)),
          )

      of_both : (k : ℕ) → IsOfWord k word → Has alive k → IsOfBits word.index (bit_and others word.bits) k
      unfolding Has
      of_both k now has =
          let alive_bit : bit_at others (k % 64) ≡ 1 = ap (λ w. bit_at w (k % 64)) (others_are ∙ ap (λ j. get_or alive j 0) now.0) ∙ has in
          (now.0, omega (arith, bit_at_and others word.bits (k % 64), alive_bit, now.1))

      word_grows : Grows walk.page.now walk.paths.now old new
      word_grows = each_grows walk.page.now walk.paths.now old new n within (λ k. elim (only k) [
        | inl same ↦ inl same
        | inr more ↦ let both = has_both k more.0 in inr (more.1, reaches k both.0 both.1)
      ])

      pub word_noted : Grows walk.page.now walk.paths.now first new × NotedFor walk n alive (take (i + 1) words) new
      word_noted = (
        grows_more walk.page.now walk.paths.now first old new before word_grows,
        word_more new word_grows (λ k now has.
            noted_there walk.page.now n (found_by old k) (found_by new k) (each k (of_both k now has) (omega (arith, many, inside k (word, among, now))))),
      )

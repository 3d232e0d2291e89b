-- Lists of items by lane, and lists of passes of which one or two change.
use Rattle.std.proofs.Common.{◌≡◌, ◌≢◌, ◌⊎◌, ℕ, zero, suc, ◌==◌, ◌≤◌, ◌<◌, Bool, true, false, List, [], ◌∷◌, ◌++◌, length, get_or, set, inl, inr, ⊎_elim, refl, sym, ◌∙◌, ap, subst, cond, arith, append-nil}
use mathlib.Core.Option.{some, some-injective, some-ne-none}
use lib.ListN.{get_elem?}
use Rattle.std.proofs.lemmas.Bool.{eq-eqb, ne_eqb}
use Rattle.std.proofs.lemmas.Bool.Decides.{eqb_tells}
use Rattle.std.proofs.lemmas.List.{get_or-set_same, get_or-set_other}
use Rattle.std.proofs.lemmas.List.Elements.{filter-append}
use Rattle.crossbeam_queue.proofs.Lists.{at_set}
use Rattle.lane_queue.specs.declared.item.Item.{Item}
use Rattle.lane_queue.specs.Items.{of_lane}

-- ---- a list that is longer by one at its end

module _ {A : Type 0} where
  -- cut at an item: that is an earlier one, or the last
  pub cut_at_end : (xs before after : List A) (x y : A) → xs ++ x ∷ [] ≡ before ++ y ∷ after
      → ((rest : List A) × (xs ≡ before ++ y ∷ rest)) ⊎ ((before ≡ xs) × (y ≡ x))
  cut_at_end [] [] after x y is = inr (refl, cc)
  cut_at_end [] (b ∷ []) after x y is = cc
  cut_at_end [] (b ∷ c ∷ before) after x y is = cc
  cut_at_end (a ∷ xs) [] after x y is = let same : a ≡ y = cc in inl (xs, cc)
  cut_at_end (a ∷ xs) (b ∷ before) after x y is =
      let rest : xs ++ x ∷ [] ≡ before ++ y ∷ after = cc in
      let same : a ≡ b = cc in
      elim (cut_at_end xs before after x y rest) [
        | inl earlier ↦ inl (earlier.0, let e = earlier.1 in cc)
        | inr last ↦ inr (let e = last.0 in cc, last.1)
      ]

-- ---- the items of a lane

module _ {T : Type 0} where
  pub of_append : (lane : ℕ) (xs ys : List (Item T)) → of_lane lane (xs ++ ys) ≡ of_lane lane xs ++ of_lane lane ys
  of_append lane xs ys = filter-append (λ x. x.lane == lane) xs ys

  pub of_few : (lane : ℕ) (items : List (Item T)) → length (of_lane lane items) ≤ length items
  of_few lane [] = omega arith
  of_few lane (x ∷ items) = elim (x.lane == lane) as (λ b. length (cond b (x ∷ of_lane lane items) (of_lane lane items)) ≤ length (x ∷ items)) [
    | true ↦ let few = of_few lane items in omega (arith, few)
    | false ↦ let few = of_few lane items in omega (arith, few)
  ]

  pub of_one : (lane : ℕ) (x : Item T) → x.lane ≡ lane → of_lane lane (x ∷ []) ≡ x ∷ []
  of_one lane x is = ap (λ b. cond b (x ∷ []) []) (eq-eqb x.lane lane is)

  pub of_other : (lane : ℕ) (x : Item T) → x.lane ≢ lane → of_lane lane (x ∷ []) ≡ []
  of_other lane x is = ap (λ b. cond b (x ∷ []) []) (ne_eqb x.lane lane is)

  -- one item more
  pub of_more : (lane : ℕ) (all : List (Item T)) (x : Item T) → x.lane ≡ lane → of_lane lane (all ++ x ∷ []) ≡ of_lane lane all ++ x ∷ []
  of_more lane all x is = of_append lane all (x ∷ []) ∙ ap (λ l. of_lane lane all ++ l) (of_one lane x is)

  pub of_same : (lane : ℕ) (all : List (Item T)) (x : Item T) → x.lane ≢ lane → of_lane lane (all ++ x ∷ []) ≡ of_lane lane all
  of_same lane all x is = of_append lane all (x ∷ []) ∙ ap (λ l. of_lane lane all ++ l) (of_other lane x is) ∙ append-nil (of_lane lane all)

  -- what is so of a lane's items, where one more was put
  pub lane_more : (P : List (Item T) → Type 0) (all : List (Item T)) (x : Item T) (lane : ℕ) → (x.lane ≡ lane → P (of_lane lane all ++ x ∷ []))
      → (x.lane ≢ lane → P (of_lane lane all)) → P (of_lane lane (all ++ x ∷ []))
  lane_more P all x lane mine others = elim (eqb_tells x.lane lane) [
    | inl same ↦ subst P (sym (of_more lane all x same.1)) (mine same.1)
    | inr other ↦ subst P (sym (of_same lane all x other.1)) (others other.1)
  ]

  -- what f makes of each lane's items, entry by entry, where one more was put and its lane's entry is made anew
  pub entry_more : {B : Type 0} (f : List (Item T) → B) (all : List (Item T)) (x : Item T) (entries : List B) (b d : B) (lane : ℕ)
      → x.lane < length entries → b ≡ f (of_lane x.lane all ++ x ∷ []) → get_or entries lane d ≡ f (of_lane lane all)
      → get_or (set entries x.lane b) lane d ≡ f (of_lane lane (all ++ x ∷ []))
  entry_more f all x entries b d lane there is was = lane_more (λ l. get_or (set entries x.lane b) lane d ≡ f l) all x lane
      (λ same. subst (λ k. get_or (set entries x.lane b) k d ≡ f (of_lane k all ++ x ∷ [])) same (get_or-set_same entries x.lane b d there ∙ is))
      (λ other. get_or-set_other entries x.lane lane b d (λ e. other (sym e)) ∙ was)

-- ---- passes: what is so of each, where one gets another view, and where one more is made

module _ {V : Type 0} where
  pub each_set : (holds : ℕ → V → Type 0) (views : List V) (pass : ℕ) (w : V) → holds pass w
      → ((j : ℕ) (u : V) → j ≢ pass → get_elem? views j ≡ some u → holds j u)
      → (j : ℕ) (u : V) → get_elem? (set views pass w) j ≡ some u → holds j u
  each_set holds views pass w mine others j u at = ⊎_elim
      (λ (here : (j ≡ pass) × (w ≡ u)). subst (λ (p : ℕ × V). holds p.0 p.1) (λ i. (sym here.0 i, here.1 i)) mine)
      (λ (else : (j ≢ pass) × (get_elem? views j ≡ some u)). others j u else.0 else.1) (at_set views pass j w u at)

  pub each_more : (holds : ℕ → V → Type 0) (views : List V) (a : V)
      → ((j : ℕ) (u : V) → get_elem? views j ≡ some u → holds j u) → holds (length views) a
      → (j : ℕ) (u : V) → get_elem? (views ++ a ∷ []) j ≡ some u → holds j u
  each_more holds [] a old new zero u at = subst (holds 0) (some-injective a u at) new
  each_more holds [] a old new (suc j) u at = absurd (some-ne-none u (sym at))
  each_more holds (x ∷ xs) a old new zero u at = old zero u at
  each_more holds (x ∷ xs) a old new (suc j) u at = each_more (λ k. holds (suc k)) xs a (λ k. old (suc k)) new j u at

-- Numbers stand for their places.
use Rattle.std.proofs.Common.{◌≡◌, ℕ, ◌+◌, ◌-◌, ◌<◌, ◌≤◌, [], map, true, ◌==◌, refl, sym, ◌∙◌, ap, subst, leb-true, arith}
use Rattle.std.specs.Bool.{one_answer, nat_le, nat_lt}
use Rattle.std.specs.List.{range_with_len, Contains}
use Rattle.std.specs.Str.{bytes_eq}
use Rattle.std.proofs.lemmas.Bool.Decides.{Decides-eqb, Decides-like, Decides-ltb}
use Rattle.std.proofs.lemmas.List.Elements.{Contains-get_or, at_from_Contains}
use Rattle.std.proofs.lemmas.List.FromFn.{length-map-range_with_len, get_or-map-range_with_len}
use Rattle.std.proofs.lemmas.Slice.Eq.{bytes_eq-Decides}
use Rattle.page_tree.specs.Tree.{Tree}
use Rattle.page_tree.specs.Limits.{nodes}
use Rattle.page_tree.specs.Number.{place_numbered}
use Rattle.page_tree.specs.Under.{is_under, places_under}
use Rattle.page_tree.proofs.Below.{listed}
use Rattle.page_tree.proofs.Numbers.{has_node, same_numbers}

-- places are equal where their numbers are
pub same_place : (n m : ℕ) (t : Tree) → n < nodes t → m < nodes t → bytes_eq (place_numbered n t) (place_numbered m t) ≡ (n == m)
same_place n m t less few =
    one_answer (bytes_eq (place_numbered n t) (place_numbered m t)) (n == m)
    (Decides-like (bytes_eq (place_numbered n t) (place_numbered m t)) (same_numbers n m t less few) (ap (λ k. place_numbered k t)) (bytes_eq-Decides (place_numbered n t) (place_numbered m t)))
    (Decides-eqb n m)

in_places : (t : Tree) (n start end : ℕ) → start ≤ n → n < end → Contains (map (λ k. place_numbered k t) (range_with_len start (end - start))) (place_numbered n t)
in_places t n start end from below =
    let long = length-map-range_with_len (λ k. place_numbered k t) start (end - start) in
    subst (Contains (map (λ k. place_numbered k t) (range_with_len start (end - start))))
    (get_or-map-range_with_len (λ k. place_numbered k t) start (end - start) (n - start) n [] (omega (arith, from, below)) (omega (arith, from)))
    (Contains-get_or (map (λ k. place_numbered k t) (range_with_len start (end - start))) (n - start) [] (omega (arith, long, from, below)))

of_places : (t : Tree) (n start end : ℕ) → n < nodes t → end ≤ nodes t → Contains (map (λ k. place_numbered k t) (range_with_len start (end - start))) (place_numbered n t)
    → (start ≤ n) × (n < end)
of_places t n start end there within among =
    let long = length-map-range_with_len (λ k. place_numbered k t) start (end - start) in
    let (i, less, at) = at_from_Contains (map (λ k. place_numbered k t) (range_with_len start (end - start))) (place_numbered n t) among in
    let few : i < end - start = omega (arith, long, less) in
    let same : place_numbered (start + i) t ≡ place_numbered n t = sym (get_or-map-range_with_len (λ k. place_numbered k t) start (end - start) i (start + i) [] few refl) ∙ at [] in
    let number : start + i ≡ n = same_numbers (start + i) n t (omega (arith, few, within)) there same in
    (omega (arith, number), omega (arith, number, few))

-- the nodes under one are those with the numbers of its range
pub in_range : (t : Tree) (above n start end : ℕ) → places_under (place_numbered above t) t ≡ map (λ k. place_numbered k t) (range_with_len start (end - start))
    → n < nodes t → end ≤ nodes t → (is_under (place_numbered above t) (place_numbered n t) ≡ true → (start ≤ n) × (n < end)) × ((start ≤ n) × (n < end) → is_under (place_numbered above t) (place_numbered n t) ≡ true)
in_range t above n start end under there within =
    let is = listed (place_numbered above t) t (place_numbered n t) in (
      λ below. of_places t n start end there within (rw (← under) (is.1 (below, has_node n t there))),
      λ among. (is.0 (rw under (in_places t n start end among.0 among.1))).0,
    )

module _ (t : Tree) (above n start end : ℕ) (under : places_under (place_numbered above t) t ≡ map (λ k. place_numbered k t) (range_with_len start (end - start))) (there : n < nodes t) (within : end ≤ nodes t) where
  -- one from the first on is under it where it stands before the end
  pub under_from : start ≤ n → nat_lt n end ≡ is_under (place_numbered above t) (place_numbered n t)
  under_from from =
      let is = in_range t above n start end under there within in
      one_answer (nat_lt n end) (is_under (place_numbered above t) (place_numbered n t)) (Decides-ltb n end)
      (λ below. (is.0 below).1, λ less. is.1 (from, less))

  -- one before the first isn't
  pub not_under : n < start → nat_le start n ≡ is_under (place_numbered above t) (place_numbered n t)
  not_under before =
      let is = in_range t above n start end under there within in
      one_answer (nat_le start n) (is_under (place_numbered above t) (place_numbered n t))
      (λ from. absurd (omega (arith, leb-true start n from, before)), λ from. absurd (omega (arith, from, before)))
      (λ below. (is.0 below).0, λ from. absurd (omega (arith, from, before)))

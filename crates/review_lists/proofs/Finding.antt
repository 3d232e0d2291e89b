-- One more of what is found.
use Rattle.std.proofs.Common.{◌≡◌, ℕ, ◌-◌, ◌^◌, ◌<◌, ◌≤◌, List, [], ◌∷◌, ◌++◌, length, take, drop, min, sym, ap, ◌∙◌, arith}
use Rattle.std.proofs.lemmas.List.{take_all, drop_all, take-append-le, drop-append-le, length_push, length-take, length-drop}
use Rattle.review_lists.specs.PageLinks.{listed_from}

module _ {T : Type 0} (from most : ℕ) (xs : List T) (x : T) where
  pub listed_more : from ≤ min (length xs) (2 ^ 64 - 1) → length (listed_from from most xs) < most
      → listed_from from most (xs ++ x ∷ []) ≡ listed_from from most xs ++ x ∷ []
  listed_more begun room =
      let few : length (drop from xs) < most = omega (arith, room, length-take most (drop from xs)) in
      ap (take most) (drop-append-le from xs (x ∷ []) (omega arith))
      ∙ take_all most (drop from xs ++ x ∷ []) (omega (arith, length_push (drop from xs) x))
      ∙ ap (λ ys. ys ++ x ∷ []) (sym (take_all most (drop from xs) (omega arith)))

  pub listed_full : 0 < most → most ≤ length (listed_from from most xs)
      → listed_from from most (xs ++ x ∷ []) ≡ listed_from from most xs
  listed_full some full =
      let begun : from ≤ length xs = omega (arith, full, some, length-take most (drop from xs), length-drop from xs) in
      ap (take most) (drop-append-le from xs (x ∷ []) begun)
      ∙ take-append-le most (drop from xs) (x ∷ []) (omega (arith, full, length-take most (drop from xs)))

  pub listed_before : from ≤ 2 ^ 64 - 1 → min (length xs) (2 ^ 64 - 1) < from
      → listed_from from most (xs ++ x ∷ []) ≡ listed_from from most xs
  listed_before fits before =
      ap (take most)
      (drop_all from (xs ++ x ∷ []) (omega (arith, length_push xs x)) ∙ sym (drop_all from xs (omega arith)))

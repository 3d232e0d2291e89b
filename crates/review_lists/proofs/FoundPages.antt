-- One more on the page of what is found, or before or behind it.
use Rattle.std.proofs.Common.{◌≡◌, ℕ, ◌+◌, ◌-◌, ◌^◌, ◌<◌, ◌≤◌, inl, inr, ◌⊎◌, List, [], ◌∷◌, ◌++◌, length, min, Bool, true, false, ◌&&◌, nat_le, nat_lt, refl, sym, ap, ◌∙◌, arith, append-nil}
use Rattle.std.specs.List.{concat}
use Rattle.std.proofs.lemmas.Bool.{false≢true, leb-true, leb-false, ltb-true, ltb-false}
use Rattle.std.proofs.lemmas.List.{length_push}
use Rattle.std.proofs.lemmas.List.Folds.{concat-append}
use Rattle.review_lists.specs.Capped.{capped}
use Rattle.review_lists.specs.PageLinks.{listed_from}
use Rattle.review_lists.specs.inside.FoundPages.{IsFoundPage, takes_next}
use Rattle.review_lists.specs.declared.found_page.FoundPage.{FoundPage}
use Rattle.review_lists.proofs.Finding.{listed_more, listed_full, listed_before}

both : (a b : Bool) → (a && b) ≡ true → (a ≡ true) × (b ≡ true)
both true b is = (refl, is)
both false b is = absurd (false≢true is)

neither : (a b : Bool) → (a && b) ≡ false → (a ≡ false) ⊎ (b ≡ false)
neither true b is = inr is
neither false b is = inl refl

module _ (from : ℕ) (finds : List (List ℕ)) (row : List ℕ) (old new : FoundPage) (from_is : new.from ≡ old.from)
    (count_is : new.count ≡ min (old.count + 1) (2 ^ 64 - 1)) (was : IsFoundPage from finds old) where
  one_more : new.count ≡ capped (length (finds ++ row ∷ []))
  one_more = omega (arith, count_is, was.count_is, length_push finds row)

  pub is_added : takes_next old ≡ true → new.shown ≡ old.shown + 1 → new.rows.items ≡ old.rows.items ++ row
      → IsFoundPage from (finds ++ row ∷ []) new
  is_added takes shown_is rows_are =
      let parts = both (nat_le old.from old.count) (nat_lt old.shown 200) takes in
      let begun : from ≤ min (length finds) (2 ^ 64 - 1) = omega (arith, leb-true _ _ parts.0, was.from_is, was.count_is) in
      let room : length (listed_from from 200 finds) < 200 = omega (arith, ltb-true _ _ parts.1, was.shown_is) in
      let more = listed_more from 200 finds row begun room in record {
        from_is = from_is ∙ was.from_is;
        count_is = one_more;
        shown_is = omega (arith, shown_is, was.shown_is, ap length more, length_push (listed_from from 200 finds) row);
        rows_are = rows_are ∙ ap (λ rows. rows ++ row) was.rows_are
            ∙ sym (ap concat more ∙ concat-append (listed_from from 200 finds) (row ∷ [])
            ∙ ap (λ last. concat (listed_from from 200 finds) ++ last) (append-nil row));
      }

  pub is_passed : old.from ≤ 2 ^ 64 - 1 → takes_next old ≡ false → new.shown ≡ old.shown → new.rows.items ≡ old.rows.items
      → IsFoundPage from (finds ++ row ∷ []) new
  is_passed fits passes shown_is rows_are =
      let same : listed_from from 200 (finds ++ row ∷ []) ≡ listed_from from 200 finds =
      elim (neither (nat_le old.from old.count) (nat_lt old.shown 200) passes) [
        | inl before ↦ listed_before from 200 finds row (omega (arith, fits, was.from_is)) (omega (arith, leb-false _ _ before, was.from_is, was.count_is))
        | inr full ↦ listed_full from 200 finds row (omega arith) (omega (arith, ltb-false _ _ full, was.shown_is))
      ] in record {
        from_is = from_is ∙ was.from_is;
        count_is = one_more;
        shown_is = shown_is ∙ was.shown_is ∙ sym (ap length same);
        rows_are = rows_are ∙ was.rows_are ∙ sym (ap concat same);
      }

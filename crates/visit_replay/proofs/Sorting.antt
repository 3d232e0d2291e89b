-- Addresses in the order of their bytes.
use Rattle.std.proofs.Common.{◌≡◌, ℕ, List, [], length, Result, Ok, Err, is_ok, inl, inr, ap, sym, ◌∙◌, arith}
use Rattle.std.specs.Cmp.{IsStrictWeakOrder}
use Rattle.std.specs.Cmp.Lexicographic.{slice_cmp}
use Rattle.std.specs.List.Sorted.{IsSorted, IsSearchInRange, IsBinarySearchResult}
use Rattle.std.specs.Ordering.{nat_cmp, is_lt, is_eq, ordering_reverse}
use Rattle.std.specs.Str.{bytes_eq}
use Rattle.std.specs.declared.cmp.Ordering.{Ordering}
use Rattle.std.specs.declared.cmp.Ordering.TheVariants.{Less, Equal, Greater}
use Rattle.std.proofs.lemmas.Bool.{cases_lt}
use Rattle.std.proofs.lemmas.Cmp.{nat_list_cmp_total}
use Rattle.std.proofs.lemmas.List.Folds.{list_any_at, list_any_none}
use Rattle.std.proofs.lemmas.List.Sorted.{ranks_by, searchable_from_sorted}
use Rattle.std.proofs.lemmas.Map.Text.{is_eq-slice_cmp}
use Rattle.visit_replay.specs.Outcome.{is_listed}

pub bytes_are_ordered : IsStrictWeakOrder (λ x y. is_lt (slice_cmp nat_cmp x y))
bytes_are_ordered = ranks_by nat_list_cmp_total (λ x. x)

-- how a text compares with an address says whether the address is that text
equal_by_order : (address text : List ℕ) (o : Ordering) → slice_cmp nat_cmp text address ≡ o → bytes_eq address text ≡ is_eq (ordering_reverse o)
equal_by_order address text o is = sym (is_eq-slice_cmp address text) ∙ ap is_eq (nat_list_cmp_total.antisymm address text ∙ ap ordering_reverse is)

-- a search by halves succeeds where the address is listed
pub found_where_listed : (addresses : List (List ℕ)) (address : List ℕ) (found : Result ℕ ℕ) → IsSorted (slice_cmp nat_cmp) addresses → IsSearchInRange found (length addresses)
    → IsBinarySearchResult (λ text. slice_cmp nat_cmp text address) addresses found → is_ok found ≡ is_listed addresses address
found_where_listed addresses address (Ok i) sorted within equal = sym (list_any_at (bytes_eq address) addresses i [] within (equal_by_order address _ Equal (equal [])))
found_where_listed addresses address (Err i) sorted within parted =
    let point = parted (searchable_from_sorted nat_list_cmp_total (λ text. text) addresses address sorted) in
    sym (list_any_none (bytes_eq address) addresses (λ k d inside. elim (cases_lt k i) [
      | inl before ↦ equal_by_order address _ Less (point.0 k d (omega arith) before)
      | inr after ↦ equal_by_order address _ Greater (point.1 k d after inside)
    ]))

-- The page of what is found, as far as it has been looked for.
use Rattle.std.specs.Prelude.{◌≡◌, ℕ, List, ◌++◌, Bool, ◌&&◌, length, nat_le, nat_lt}
use Rattle.std.specs.List.{concat}
use Rattle.review_lists.specs.Capped.{capped}
use Rattle.review_lists.specs.PageLinks.{listed_from}
use Rattle.review_lists.specs.declared.found_page.FoundPage.{FoundPage}
use Rattle.review_lists.specs.declared.found_page.TheConstants.{VISITS_FOUND}

-- these were found, and those of them that stand on the page are its rows
pub record IsFoundPage (from : ℕ) (finds : List (List ℕ)) (page : FoundPage) : Type 0 where
  pub from_is : page.from ≡ from
  pub count_is : page.count ≡ capped (length finds)
  pub shown_is : page.shown ≡ length (listed_from from VISITS_FOUND finds)
  pub rows_are : page.rows.items ≡ concat (listed_from from VISITS_FOUND finds)

-- the next one stands on it
abbrev pub takes_next : FoundPage → Bool
takes_next page = nat_le page.from page.count && nat_lt page.shown VISITS_FOUND

-- these are found behind those before
abbrev pub AddsFinds : FoundPage → FoundPage → List (List ℕ) → Type 0
AddsFinds old new more =
    (from : ℕ) (finds : List (List ℕ)) → IsFoundPage from finds old → IsFoundPage from (finds ++ more) new

-- A page of a list on which the places before are shown.
use Rattle.std.specs.Prelude.{ℕ, List, [], ◌∷◌, ◌++◌, length, nat_le, nat_lt, Bool, ◌&&◌, if◌then◌else◌}
use Rattle.review_state.specs.declared.paging.ShownPage.{ShownPage}

-- the next place stands on it where it is marked, those before the page are passed, and there is room
abbrev pub with_shown : Bool → ℕ → ℕ → ℕ → ShownPage → List ℕ
with_shown is_marked from most place page = let places = page.places.items in
    if is_marked && (nat_le from page.count && nat_lt (length places) most) then places ++ place ∷ [] else places

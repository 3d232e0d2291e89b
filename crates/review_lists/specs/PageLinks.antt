-- A list is shown by pages, with links to others of them.
use Rattle.std.specs.Prelude.{ℕ, ◌+◌, ◌-◌, ◌*◌, ◌/◌, List, [], ◌∷◌, ◌++◌, take, drop, flat_map, codes, decimal, nat_le, nat_lt, ◌==◌, if◌then◌else◌, min}
use Rattle.std.specs.List.{range_with_len}
use Rattle.review_pieces.specs.Pieces.{pages_html, page_here_html, page_link_html}

-- at most so many, from that one on
abbrev pub listed_from : {T : Type 0} → ℕ → ℕ → List T → List T
listed_from from most items = take most (drop from items)

-- the number of the last page
abbrev pub last_page : ℕ → ℕ → ℕ
last_page per count = (count - 1) / per

-- that of the page that begins there, or of the last one where the list has ended before
abbrev pub page_here : ℕ → ℕ → ℕ → ℕ
page_here per from count = min (from / per) (last_page per count)

-- the first, those that are at most three away, and the last: at most nine
abbrev pub pages_linked : ℕ → ℕ → List ℕ
pages_linked here last = let low = here - 3 in let high = min (here + 3) last in
    (if nat_lt 0 low then 0 ∷ [] else [])
    ++ (range_with_len low (high + 1 - low) ++ (if nat_lt high last then last ∷ [] else []))

-- as `51 to 100`
abbrev pub page_name : ℕ → ℕ → ℕ → List ℕ
page_name per count page = let start = page * per in
    decimal (start + 1) ++ (codes " to " ++ decimal (min (start + per) count))

-- its address has the number of the first that it shows between these texts
unfoldable pub page_entry : List ℕ → List ℕ → ℕ → ℕ → ℕ → ℕ → List ℕ
page_entry before behind per count here page =
    if page == here then page_here_html (page_name per count page)
    else page_link_html (before ++ (decimal (page * per) ++ behind)) (page_name per count page)

-- nothing, where one page has all
unfoldable pub page_links : List ℕ → List ℕ → List ℕ → ℕ → ℕ → ℕ → List ℕ
page_links label before behind per from count = let here = page_here per from count in
    if nat_le count per then []
    else pages_html label
    (flat_map (page_entry before behind per count here) (pages_linked here (last_page per count)))

-- The site as it is after its repair, as far as replay asks for it: this project's own words.
use Rattle.std.specs.Prelude.{ℕ, List, Bool, Option}
use Rattle.page_tree.specs.Tree.{Tree}

pub record RepairedSite : Type 0 where
  -- the page that stands at an address now, if there is one
  pub page_of : List ℕ → Option Tree
  -- whether the site signals a conflict there, between the page of before and the one that stands there now
  pub signals : List ℕ → Tree → Tree → Bool
  -- the addresses that were patched
  pub patch : List (List ℕ)
  -- how events find their places: by their paths, or by their elements with these fresh names
  pub same : Option (List (List ℕ))

-- the site that hooks stand for, with that patch, and how events find their places
abbrev pub site_by : {H : Type 0} → (H → List ℕ → Option Tree) → (H → List ℕ → Tree → Tree → Bool) → H → List (List ℕ)
    → Option (List (List ℕ)) → RepairedSite
site_by page_of signals hooks patch same =
    record { page_of = page_of hooks; signals = signals hooks; patch = patch; same = same }

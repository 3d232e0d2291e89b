-- A site's pages, by their addresses.
use Rattle.std.specs.Prelude.{ℕ, ◌≡◌, List, All, Option, Some, IfSome}
use Rattle.page_tree.specs.Tree.{Tree}
use Rattle.replay_workers.specs.declared.site_pages.PageAt.{PageAt}
use Rattle.replay_workers.specs.declared.last_page.PageThere.{PageThere}
use Rattle.replay_workers.specs.declared.last_page.LastPage.{LastPage}

-- each is the page that the site has at its address
abbrev pub ArePagesOf : (List ℕ → Option Tree) → List PageAt → Type 0
ArePagesOf page_of pages = All (λ one. page_of one.address.now ≡ Some one.page) pages

-- it is, with the fresh names of the site's law
abbrev pub IsThere : (List ℕ → Option Tree) → Option (List (List ℕ)) → PageThere → Type 0
IsThere page_of same one = (page_of one.address.now ≡ Some one.page.0) × (same ≡ Some one.page.1)

abbrev pub IsLastOf : (List ℕ → Option Tree) → Option (List (List ℕ)) → LastPage → Type 0
IsLastOf page_of same last = IfSome last.there (IsThere page_of same)

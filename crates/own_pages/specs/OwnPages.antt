-- What clauses see of the pages of single visits: this project's own rule.
use Rattle.std.specs.Prelude.{◌≡◌, ℕ, ◌==◌, ◌&&◌, List, if◌then◌else◌, Option, Some, option_and_then, bytes_eq}
use Rattle.std.specs.BTreeMap.{get, get_by_text}
use Rattle.std.specs.Ordering.{nat_cmp}
use Rattle.page_tree.specs.Tree.{Tree}
use Rattle.own_pages.specs.declared.pages.OwnPages.{OwnPages}

-- the page of that client's visit, where it has one of its own
abbrev pub own_page_at : OwnPages → List ℕ → ℕ → Option Tree
own_page_at own client visit = option_and_then (λ visits. get nat_cmp visits visit) (get_by_text own.clients client)

-- that page was added for the visit, and all others stand as before
abbrev pub AddsOwnPage : OwnPages → List ℕ → ℕ → Tree → OwnPages → Type 0
AddsOwnPage old client visit page new = (other : List ℕ) (number : ℕ) → own_page_at new other number
    ≡ (if bytes_eq client other && (visit == number) then Some page else own_page_at old other number)

-- each stands as before
abbrev pub KeepsOwnPages : OwnPages → OwnPages → Type 0
KeepsOwnPages old new = (client : List ℕ) (visit : ℕ) → own_page_at new client visit ≡ own_page_at old client visit

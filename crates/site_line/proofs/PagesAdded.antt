-- What the table has at an address, page by page.
use Rattle.std.proofs.Common.{◌≡◌, ℕ, List, [], ◌∷◌, fold, if◌then◌else◌, Option, Some, None, option_map, bytes_eq, refl}
use Rattle.serde_json.specs.Data.{Data, Members, member}
use Rattle.page_tree.specs.Tree.{Tree}
use Rattle.page_tree.specs.Fault.{page_in}
use Rattle.site_line.specs.Site.{Entry, pages_among, page_among}
use Rattle.site_line.specs.inside.{FailsWhere}
use Rattle.site_line.specs.declared.fault.SiteFault.{SiteFault}
use Rattle.site_line.specs.declared.fault.SiteFault.TheVariants.{NotJson, BadMember, NoMemory}

-- with the pages that are left, it comes to what all of them have there
abbrev pub PagesSoFar : List ℕ → Option Tree → Option (List Entry) → Option (List Entry) → Type 0
PagesSoFar address page rest all =
    option_map (λ entries. fold (λ page entry. if bytes_eq entry.0 address then Some entry.1 else page) page entries) rest
    ≡ option_map (λ entries. page_among entries address) all

entry_taken : (address name : List ℕ) (page : Tree) (before : Option Tree) (rest all : Option (List Entry))
    → PagesSoFar address before (option_map (λ entries. (name, page) ∷ entries) rest) all
    → PagesSoFar address (if bytes_eq name address then Some page else before) rest all
entry_taken address name page before None all so_far = so_far
entry_taken address name page before (Some entries) all so_far = so_far

pub page_next : (address name : List ℕ) (d : Data) (page : Tree) (before after : Option Tree) (ms : Members) (all : Option (List Entry))
    → page_in d ≡ Some page → after ≡ (if bytes_eq name address then Some page else before)
    → PagesSoFar address before (pages_among (member name d ms)) all → PagesSoFar address after (pages_among ms) all
page_next address name d page before after ms all found is so_far = rw is (entry_taken address name page before (pages_among ms) all (rw found at so_far))

-- a value that stands for no page fails the whole
pub page_missed : (e : SiteFault) (name : List ℕ) (d : Data) (before : Option Tree) (ms : Members) (all : Option (List Entry))
    → FailsWhere (page_in d ≡ None) e → PagesSoFar [] before (pages_among (member name d ms)) all → FailsWhere (all ≡ None) e
page_missed NotJson name d before ms all fails so_far = fails
page_missed BadMember name d before ms None fails so_far = refl
page_missed BadMember name d before ms (Some entries) fails so_far = let none : None ≡ Some (page_among entries []) = rw fails at so_far in cc
page_missed NoMemory name d before ms all fails so_far = tt

-- the pages are there, and the table has them
pub pages_there : (found : Option (List Entry)) (at : List ℕ → Option Tree)
    → ((address : List ℕ) → option_map (λ entries. page_among entries address) found ≡ Some (at address))
    → (entries : List Entry) × (found ≡ Some entries) × ((address : List ℕ) → at address ≡ page_among entries address)
pages_there None at has = let none : None ≡ Some (at []) = has [] in cc
pages_there (Some entries) at has =
    (entries, refl, λ address. let same : Some (page_among entries address) ≡ Some (at address) = has address in cc)

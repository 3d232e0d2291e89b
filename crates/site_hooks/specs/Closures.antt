-- What the closures of a site have to meet, for every address and every page that they can be handed.
use Rattle.std.specs.Prelude.{◌≡◌, ℕ, List, Option, Bool, Result, Ok}
use Rattle.std.specs.Str.{IsUtf8}
use Rattle.std.specs.declared.alloc.AllocError.{AllocError}
use Rattle.page_tree.specs.Tree.{Tree}
use Rattle.page_tree.specs.Limits.{IsPage}

-- it may be called at every address
abbrev pub AtAddresses : (List ℕ → Type 0) → Type 0
AtAddresses can_make = (address : List ℕ) → IsUtf8 address → can_make address

-- each page that it may answer, or none, is the law's
abbrev pub MakesBy : (List ℕ → Option Tree) → (List ℕ → Result (Option Tree) AllocError → Type 0) → Type 0
MakesBy page_of may_make = AtAddresses (λ address. (page : _) → may_make address (Ok page) → page ≡ page_of address)

-- it may be called at every address and every two pages
abbrev pub AtPages : (List ℕ → Tree → Tree → Type 0) → Type 0
AtPages can_tell = (at : List ℕ) (old new : Tree) → IsUtf8 at → IsPage old → IsPage new → can_tell at old new

-- each truth value that it may answer is the law's
abbrev pub TellsBy : (List ℕ → Tree → Tree → Bool) → (List ℕ → Tree → Tree → Result Bool AllocError → Type 0) → Type 0
TellsBy signals may_tell = AtPages (λ at old new. (yes : _) → may_tell at old new (Ok yes) → yes ≡ signals at old new)

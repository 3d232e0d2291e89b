-- What nodes are in the forms around them.
use Rattle.std.specs.Prelude.{◌≡◌, ℕ, List, [], ◌∷◌, ◌++◌, slice_get, Option, Some, None, codes}
use Rattle.std.specs.Str.{bytes_eq}
use Rattle.page_tree.specs.Tree.{Attribute, Tree, element, words}
use Rattle.page_tree.specs.Look.{node_at}
use Rattle.page_tree.specs.Number.{place_numbered}
use Rattle.page_looks.specs.Outline.{is_seen}
use Rattle.page_looks.specs.Sending.{untouched_pairs}
use Rattle.page_looks.specs.inside.Numbers.{StandFor}
use Rattle.page_looks.specs.inside.Shapes.{told_texts}
use Rattle.page_looks.specs.declared.in_forms.InForm.{InForm}
use Rattle.page_looks.specs.declared.telling.Telling.{Telling}
use Rattle.page_looks.specs.declared.telling.Telling.TheVariants.{Shown, Sent}

abbrev pub pair_numbers : Option (ℕ × ℕ) → List ℕ
pair_numbers None = []
pair_numbers (Some p) = p.0 ∷ p.1 ∷ []

-- of an element whether it is seen, and whether nothing is under it; by the numbers of their texts the pair that it
-- sends untouched, or none
abbrev pub IsInForm : List (List ℕ) → List (List ℕ) → Tree → InForm → Type 0
IsInForm texts fresh (element name attributes children) one =
    (one.seen ≡ is_seen (element name attributes children)) × (one.closed ≡ bytes_eq name (codes "textarea"))
    × StandFor texts (pair_numbers one.pair)
    (told_texts (untouched_pairs fresh (element name attributes children ∷ [])))
IsInForm texts fresh (words text) one = one.pair ≡ None

-- all nodes of a page, in their order
abbrev pub AreInForms : List (List ℕ) → List (List ℕ) → Tree → List InForm → Type 0
AreInForms texts fresh t all = (n : ℕ) (m : Tree) → node_at (place_numbered n t) t ≡ Some m
    → (one : InForm) × (slice_get all n ≡ Some one) × IsInForm texts fresh m one

-- what is told from is there: of what is sent, what all nodes are in forms
abbrev pub IsReady : Telling → List (List ℕ) → Tree → Type 0
IsReady Shown texts t = Unit {0}
IsReady (Sent fresh all) texts t = AreInForms texts fresh.now t all.now

-- the numbers of the texts of some pairs were pushed, all of which are kept already
abbrev pub PushesKnown : List (List ℕ) → List ℕ → List ℕ → List Attribute → Type 0
PushesKnown texts key next pairs =
    (numbers : List ℕ) × (next ≡ key ++ numbers) × StandFor texts numbers (told_texts pairs)

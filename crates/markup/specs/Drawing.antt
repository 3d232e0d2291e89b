-- What a page is drawn as: two elements that mean nothing to a browser, with four attributes that do nothing, and
-- texts. So nothing of it runs, leads anywhere or is loaded, whatever the texts and values are. This is the project's
-- own rule.
use Rattle.std.specs.Prelude.{◌≡◌, ℕ, List, [], ◌∷◌, ◌++◌, flat_map, codes}
use Rattle.markup.specs.Escaping.{escaped}
use Rattle.markup.specs.declared.tags.Layout.{Layout}
use Rattle.markup.specs.declared.tags.Layout.TheVariants.{Block, Inline}
use Rattle.markup.specs.declared.tags.Facet.{Facet}
use Rattle.markup.specs.declared.tags.Facet.TheVariants.{Name, Class, Mark, Anchor}
use denote.Ref.{Bor}

-- ---- tags

abbrev pub layout_tag : Layout → List ℕ
layout_tag Block = codes "div"
layout_tag Inline = codes "span"

abbrev pub facet_attribute : Facet → List ℕ
facet_attribute Name = codes "data-n"
facet_attribute Class = codes "class"
facet_attribute Mark = codes "data-mark"
facet_attribute Anchor = codes "id"

-- an attribute: its name, and its value in quotes
abbrev pub facet_html : Facet × List ℕ → List ℕ
facet_html facet = codes " " ++ (facet_attribute facet.0 ++ (codes "=\"" ++ (escaped facet.1 ++ codes "\"")))

abbrev pub start_tag : Layout → List (Facet × List ℕ) → List ℕ
start_tag layout facets = codes "<" ++ (layout_tag layout ++ (flat_map facet_html facets ++ codes ">"))

abbrev pub end_tag : Layout → List ℕ
end_tag layout = codes "</" ++ (layout_tag layout ++ codes ">")

-- ---- drawings

mutual
  -- a text, or an element with more in it
  pub data Drawing : Type 0 where
    says : List ℕ → Drawing
    drawn : Layout → List (Facet × List ℕ) → Drawings → Drawing

  pub data Drawings : Type 0 where
    no_drawings : Drawings
    drawing : Drawing → Drawings → Drawings

abbrev mutual
  pub html : Drawing → List ℕ
  html (says text) = escaped text
  html (drawn layout facets inside) = start_tag layout facets ++ (html_of_all inside ++ end_tag layout)

  pub html_of_all : Drawings → List ℕ
  html_of_all no_drawings = []
  html_of_all (drawing d ds) = html d ++ html_of_all ds

-- the text is the HTML of some drawings
abbrev pub IsInertHtml : List ℕ → Type 0
IsInertHtml text = (drawings : Drawings) × (text ≡ html_of_all drawings)

-- ---- as the program has them

abbrev pub facets_seen : List (Facet × Bor (List ℕ)) → List (Facet × List ℕ)
facets_seen [] = []
facets_seen (facet ∷ facets) = (facet.0, facet.1.now) ∷ facets_seen facets

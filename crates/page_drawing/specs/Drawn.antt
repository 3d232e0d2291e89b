-- What is written behind a text when a page is drawn: this project's own rule.
use Rattle.std.specs.Prelude.{◌≡◌, ℕ, List, ◌++◌}
use Rattle.markup.specs.Drawing.{Drawings, html_of_all, start_tag}
use Rattle.markup.specs.declared.tags.Layout.{Layout}
use Rattle.markup.specs.declared.tags.Facet.{Facet}

-- it is the HTML of some drawings, of which nothing does anything
pub record DrawsBehind (old new : List ℕ) : Type 0 where
  pub drawings : Drawings
  pub is : new ≡ old ++ html_of_all drawings

-- it is a tag that begins such an element
pub record BeginsBehind (old new : List ℕ) (layout : Layout) : Type 0 where
  pub facets : List (Facet × List ℕ)
  pub is : new ≡ old ++ start_tag layout facets

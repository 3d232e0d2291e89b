-- What is written behind a text, piece by piece, is the HTML of drawings.
use Rattle.std.proofs.Common.{◌≡◌, ℕ, List, ◌++◌, sym, ap, ◌∙◌, append_assoc, append-nil}
use Rattle.markup.specs.Escaping.{escaped}
use Rattle.markup.specs.Drawing.{Drawing, no_drawings, drawing, drawn, says, html, html_of_all, start_tag, end_tag}
use Rattle.markup.specs.declared.tags.Layout.{Layout}
use Rattle.markup.specs.declared.tags.Facet.{Facet}
use Rattle.markup.proofs.Joined.{joined, html-joined}
use Rattle.page_drawing.specs.Drawn.{DrawsBehind, BeginsBehind}

pub adds_none : (old : List ℕ) → DrawsBehind old old
adds_none old = record { drawings = no_drawings; is = sym (append-nil old) }

pub adds_more : (old between new : List ℕ) → DrawsBehind old between → DrawsBehind between new → DrawsBehind old new
adds_more old between new front rest = record {
  drawings = joined front.drawings rest.drawings;
  is = rest.is ∙ ap (λ text. text ++ html_of_all rest.drawings) front.is ∙ append_assoc old (html_of_all front.drawings) (html_of_all rest.drawings)
      ∙ ap (λ text. old ++ text) (sym (html-joined front.drawings rest.drawings));
}

pub adds_one : (old new : List ℕ) (d : Drawing) → new ≡ old ++ html d → DrawsBehind old new
adds_one old new d is = record { drawings = drawing d no_drawings; is = is ∙ ap (λ text. old ++ text) (sym (append-nil (html d))) }

pub adds_words : (old new words : List ℕ) → new ≡ old ++ escaped words → DrawsBehind old new
adds_words old new words is = adds_one old new (says words) is

pub begins : (old new : List ℕ) (layout : Layout) (facets : List (Facet × List ℕ)) → new ≡ old ++ start_tag layout facets → BeginsBehind old new layout
begins old new layout facets is = record { facets = facets; is = is }

-- a tag, drawings, and its end
pub adds_box : (old begun inside new : List ℕ) (layout : Layout) → BeginsBehind old begun layout → DrawsBehind begun inside
    → new ≡ inside ++ end_tag layout → DrawsBehind old new
adds_box old begun inside new layout front between is_new =
    let tag = start_tag layout front.facets in
    let text = html_of_all between.drawings in
    let ended : inside ≡ old ++ (tag ++ text) = between.is ∙ ap (λ begun. begun ++ text) front.is ∙ append_assoc old tag text in
    let whole : new ≡ old ++ (tag ++ (text ++ end_tag layout)) =
    is_new ∙ ap (λ inside. inside ++ end_tag layout) ended ∙ append_assoc old (tag ++ text) (end_tag layout)
    ∙ ap (λ all. old ++ all) (append_assoc tag text (end_tag layout)) in
    adds_one old new (drawn layout front.facets between.drawings) whole

pub adds_empty_box : (old begun new : List ℕ) (layout : Layout) → BeginsBehind old begun layout → new ≡ begun ++ end_tag layout → DrawsBehind old new
adds_empty_box old begun new layout front is = adds_box old begun begun new layout front (adds_none begun) is

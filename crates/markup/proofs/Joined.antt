-- Drawings behind drawings.
use Rattle.std.proofs.Common.{◌≡◌, ℕ, List, [], ◌++◌, refl, sym, ap, ◌∙◌, append_assoc}
use Rattle.markup.specs.Drawing.{Drawings, no_drawings, drawing, html, html_of_all, IsInertHtml}

abbrev pub joined : Drawings → Drawings → Drawings
joined no_drawings rest = rest
joined (drawing d ds) rest = drawing d (joined ds rest)

pub html-joined : (ds rest : Drawings) → html_of_all (joined ds rest) ≡ html_of_all ds ++ html_of_all rest
html-joined no_drawings rest = refl
html-joined (drawing d ds) rest = ap (λ more. html d ++ more) (html-joined ds rest) ∙ sym (append_assoc (html d) (html_of_all ds) (html_of_all rest))

pub inert_joined : (front rest : List ℕ) → IsInertHtml front → IsInertHtml rest → IsInertHtml (front ++ rest)
inert_joined front rest (ds, is) (more, is_more) =
    (joined ds more, ap (λ text. text ++ rest) is ∙ ap (λ text. html_of_all ds ++ text) is_more ∙ sym (html-joined ds more))

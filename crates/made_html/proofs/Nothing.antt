-- Nothing, and drawings, are HTML that is made of pieces and drawings.
use Rattle.std.proofs.Common.{◌≡◌, ℕ, List, [], ◌++◌}
use Rattle.page_drawing.specs.Drawn.{DrawsBehind}
use Rattle.made_html.specs.Made.{MadeHtml, no_html, joined_html, drawn_html_of, IsMade, html_made}

pub made_of_nothing : (new : List ℕ) → new ≡ [] → IsMade new
made_of_nothing new e = record { html = no_html; is = e }

pub made_of_drawings : (old new : List ℕ) → IsMade old → DrawsBehind old new → IsMade new
made_of_drawings old new is_old behind = record { html = joined_html is_old.html (drawn_html_of behind.drawings); is = cc }

use Rattle.std.proofs.Common.{◌≡◌, ◌++◌, length, decimal, ap, ◌∙◌}
use Rattle.std.proofs.lemmas.Result.{on_ok_weaker}
use Rattle.review_pieces.specs.Pieces.{decide_html}
use Rattle.visit_view.specs.Deciding.{along_part, below_of, stops_at, forms, keeps_words, voids_words, with_words}
use Rattle.visit_view.proofs.Passing.{many_passing}
use Rattle.visit_view.proofs.deciding.add_forms_along.Goals as goal

pub returns : goal.returns
returns c =
    let found = c.args.found.now in
    let book = found.docket.now in
    let below = below_of book found.number in
    let at = stops_at found.case.now.outcome in
    let along = along_part found.client.now found.visits.now book below in
    let keeps : c.keeps_words.result.now ≡ keeps_words at = c.keeps_words.ensures ∙ ap keeps_words c.at_of-at.ensures in
    let voids : c.voids_words.result.now ≡ voids_words at = c.voids_words.ensures ∙ ap voids_words c.at_of-at.ensures in
    let visit : c.as_str.result.now ≡ decimal found.number = c.as_str.ensures.value ∙ c.in_ok-visit.ensures in
    let with : c.as_str-2.result.now ≡ with_words (length below) =
    c.as_str-2.ensures.value ∙ c.in_ok-with.ensures ∙ ap with_words (many_passing book.cases c.args.places.now below c.requires) in
    let told : c.as_slice.result.now ≡ along =
    c.as_slice.ensures.value ∙ c.in_ok-add_along_part.ensures ∙ ap (λ text. text ++ along) c.new-along.ensures.items in
    let client = c.text.ensures in
    let same : decide_html c.keeps_words.result.now c.text.result.now c.as_str.result.now c.args.token.now c.voids_words.result.now c.as_str-2.result.now
    c.as_slice.result.now ≡ forms c.args.token.now found.client.now found.visits.now book found.number found.case.now = cc in
    on_ok_weaker c.add_decide.result (λ e. e ∙ ap (λ text. c.args.out.now.items ++ text) same) c.add_decide.ensures

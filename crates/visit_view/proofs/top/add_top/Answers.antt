use Rattle.std.proofs.Common.{◌≡◌, ◌++◌, [], decimal, ap, ◌∙◌}
use Rattle.std.proofs.lemmas.Result.{on_ok_weaker}
use Rattle.conflict_desk.specs.Book.{standing_in}
use Rattle.review_pieces.specs.Pieces.{visit_html}
use Rattle.visit_view.specs.Deciding.{address_of, decide_part}
use Rattle.visit_view.specs.Words.{state_word}
use Rattle.visit_view.proofs.top.add_top.Goals as goal

pub returns : goal.returns
returns c =
    let found = c.args.found.now in
    let book = found.docket.now in
    let part = decide_part c.args.token.now found.client.now found.visits.now book found.number found.case.now in
    let client = c.text.ensures in
    let visit : c.as_str.result.now ≡ decimal found.number = c.as_str.ensures.value ∙ c.in_ok-visit.ensures in
    let state : c.state_word.result.now ≡ state_word (standing_in book found.case.now) =
    c.state_word.ensures ∙ ap state_word (c.standing_at-standing.ensures found.case.now c.requires.at) in
    let address = c.address_of.ensures in
    let decide : c.as_slice-3.result.now ≡ part =
    c.as_slice-3.ensures.value ∙ c.in_ok-add_decide_part.ensures ∙ ap (λ text. text ++ part) c.new-decide.ensures.items in
    let same : visit_html c.text.result.now c.as_str.result.now c.state_word.result.now c.address_of.result.now c.as_slice.result.now []
    c.as_slice-2.result.now c.as_slice-3.result.now ≡ visit_html found.client.now (decimal found.number) (state_word (standing_in book found.case.now))
    (address_of found.visits.now found.number) c.as_slice.result.now [] c.as_slice-2.result.now part = cc in
    on_ok_weaker c.add_visit.result (λ e. record {
      opener = c.as_slice.result.now;
      opener_is_made = c.as_slice.ensures.made;
      conflict = c.as_slice-2.result.now;
      conflict_is_made = c.as_slice-2.ensures.made;
      is = e ∙ ap (λ text. c.args.out.now.items ++ text) same;
    }) c.add_visit.ensures

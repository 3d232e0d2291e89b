use Rattle.std.proofs.Common.{◌≡◌, ◌++◌, [], decimal, ap, sym, ◌∙◌, append_assoc}
use Rattle.conflict_desk.specs.Book.{standing_in}
use Rattle.review_pieces.specs.Pieces.{visit_html}
use Rattle.visit_view.specs.Deciding.{address_of, decide_part}
use Rattle.visit_view.specs.Words.{state_word}
use Rattle.review_visits.specs.Visit.{kept_visits}
use Rattle.review_visits.proofs.visit.add_visit.Goals as goal

pub returns-clause-shows : goal.returns-clause-shows
returns-clause-shows g c = λ yes.
    let found = c.in-Some.found in
    let is = c.in-Some.ensures.some in
    let top = c.in_ok-add_top.ensures in
    let book = found.docket.now in
    let old = c.args.out.now.items in
    let rest = c.rest.inside.bytes.items in
    let visits = kept_visits c.args.replayed.now c.args.client.now in
    let state = state_word (standing_in book found.case.now) in
    let shown = visit_html c.args.client.now (decimal c.args.visit) state (address_of visits c.args.visit) top.opener [] top.conflict
    (decide_part c.args.token.now c.args.client.now visits book c.args.visit found.case.now) in
    let client = is.client_is in
    let number = is.number_is in
    let kept = is.visits_are in
    let same : visit_html found.client.now (decimal found.number) state (address_of found.visits.now found.number) top.opener [] top.conflict
    (decide_part c.args.token.now found.client.now found.visits.now book found.number found.case.now) ≡ shown = cc in
    record {
      book = book;
      book_is = is.book_is;
      case = found.case.now;
      case_is = is.case_is;
      opener = top.opener;
      opener_is_made = top.opener_is_made;
      conflict = top.conflict;
      conflict_is_made = top.conflict_is_made;
      rest = rest;
      rest_is_made = c.rest.invariant;
      is = c.in_ok-add_to.ensures ∙ ap (λ text. c.add_top.new.out.items ++ text) (sym c.rest.view_is)
          ∙ ap (λ text. text ++ rest) (top.is ∙ ap (λ text. old ++ text) same) ∙ append_assoc old shown rest;
    }

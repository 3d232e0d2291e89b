use Rattle.std.proofs.Common.{◌≡◌, Some, option_map, ap, sym, ◌∙◌}
use Rattle.std.proofs.lemmas.Option.{same_Some}
use Rattle.conflict_desk.specs.Docket.{case_of_visit}
use Rattle.conflict_desk.specs.Book.{Book, standing_in}
use Rattle.conflict_desk.specs.Desk.{book_of}
use Rattle.conflict_desk.proofs.Books.{stands_below, below_stands}
use Rattle.conflict_desk.proofs.desk.Desk.standing.Goals as goal

pub returns-clause-chain : goal.returns-clause-chain
returns-clause-chain c = λ book case book_is case_is.
    let shown : c.in_ok-get.field-0.now ≡ book = same_Some c.in_ok-get.field-0.now book
    (c.in_ok-get.ensures.value ∙ ap (book_of c.args.client.now) c.self.view_is ∙ book_is) in
    let is : c.standing.result ≡ Some (standing_in book case) =
    c.standing.ensures ∙ ap (λ (b : Book). option_map (standing_in b) (case_of_visit b.cases c.args.visit)) shown ∙ ap (option_map (standing_in book)) case_is in
    ((λ stands. stands_below book case (same_Some _ _ (sym is ∙ stands))), (λ below. is ∙ ap (λ s. Some s) (below_stands book case below)))

use Rattle.std.proofs.Common.{true, refl, subst}
use Rattle.review_lists.specs.ClientView.{AddsBook, TellsClient}
use Rattle.review_lists.proofs.client_view.add_summary.Goals as goal

pub returns-in_ok-add_told-in-Some : goal.returns-in_ok-add_told-in-Some
returns-in_ok-add_told-in-Some g c =
    let told = c.in_ok-add_told-in-Some.ensures in
    let client = c.args.summary.now in
    subst
    (λ found. AddsBook c.args.logs.now found client c.args.client.now c.args.from c.args.out.now.items c.add_told.new.out.items true)
    c.in-Some.ensures
    (refl, told.0, told.1, subst (λ visits. TellsClient client c.in-Some.docket.now visits c.args.from told.0) c.logged_visits-visits.ensures.visits told.2)

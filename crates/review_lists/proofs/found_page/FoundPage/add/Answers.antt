use Rattle.std.proofs.Common.{refl}
use Rattle.review_lists.proofs.FoundPages.{is_added}
use Rattle.review_lists.proofs.found_page.FoundPage.add.Goals as goal

pub returns-in-Ok : goal.returns-in-Ok
returns-in-Ok c = λ from finds was.
    is_added from finds c.args.row.now c.args.self.now _ refl c.saturating_add-self.ensures was c.requires refl c.in-Ok.ensures.items

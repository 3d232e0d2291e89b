use Rattle.std.proofs.Common.{refl, arith}
use Rattle.review_lists.proofs.FoundPages.{is_passed}
use Rattle.review_lists.proofs.found_page.FoundPage.pass.Goals as goal

pub returns : goal.returns
returns c = λ from finds row was.
    is_passed from finds row c.args.self.now _ refl c.saturating_add-self.ensures was (omega arith) c.requires refl refl

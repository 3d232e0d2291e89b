use Rattle.std.proofs.Common.{[]}
use Rattle.std.proofs.lemmas.Result.{IfOk-weaker}
use Rattle.site_line.proofs.TakenLaws.{found_taken, some_if}
use Rattle.site_line.proofs.refused.takes_pages.Goals as goal

pub returns : goal.returns
returns c =
    found_taken c.read_pages.result _ c.is_taken.result (IfOk-weaker c.read_pages.result _ _ (λ table pages. some_if _ _ _ (pages [])) c.read_pages.ensures.pages) c.read_pages.ensures.fails c.is_taken.ensures

use Rattle.std.proofs.Common.{◌≡◌, sum_by, take}
use Rattle.conflict_desk.specs.declared.decided.Standing.TheVariants.{Waiting}
use Rattle.warp_run.specs.declared.repaired.ClientSummary.{ClientSummary}
use Rattle.review_lists.specs.Capped.{capped}
use Rattle.review_lists.specs.Standings.{how_many_of}
use Rattle.review_lists.proofs.standings.all_waiting.Given as goal

abbrev pub invariant-loop-client : goal.invariant-loop-client
invariant-loop-client l =
    l.waiting ≡ capped (sum_by (λ (client : ClientSummary). how_many_of l.desk client.client Waiting) (take l.client-index l.clients))

use Rattle.std.proofs.Common.{◌++◌, map, sym, ap, ◌∙◌, append-nil}
use Rattle.warp_run.specs.Repair.{summary_of}
use Rattle.warp_run.proofs.repairing.summaries.Goals as goal

pub returns : goal.returns
returns g c =
    sym (append-nil c.loop-client.all.items)
    ∙ ap (λ rest. c.loop-client.all.items ++ map summary_of rest) (sym c.in-None.ensures.steps.0)
    ∙ c.loop-client.invariant
    ∙ ap (map summary_of) (c.into_iter-client-iterator.ensures.into_iter_gives ∙ c.iter-client-items.ensures.rest)

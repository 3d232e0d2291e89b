use Rattle.std.proofs.Common.{◌≡◌, [], ◌∷◌, ◌++◌, map, sym, ap, ◌∙◌, append-nil, append_assoc}
use Rattle.warp_run.specs.Repair.{summary_by}
use Rattle.replay_folder.specs.FolderReport.{last_summary}
use Rattle.replay_folder.proofs.summaries.summaries.Goals as goal

pub returns : goal.returns
returns g c =
    sym (append-nil c.loop-client.all.items)
    ∙ ap (λ rest. c.loop-client.all.items ++ map (last_summary c.args.ends.now) rest) (sym c.in-None.ensures.steps.0)
    ∙ c.loop-client.invariant
    ∙ ap (map (last_summary c.args.ends.now)) (c.into_iter-client-iterator.ensures.into_iter_gives ∙ c.iter-client-items.ensures.rest)

pub loop-client-preserved : goal.loop-client-preserved
loop-client-preserved g c =
    let f = last_summary c.args.ends.now in
    let client = c.in-Some.client.now in
    let lane = c.in-Some.lane.now in
    let is : c.in_ok-summary_of_last.field-0 ≡ f (client, lane) =
    c.in_ok-summary_of_last.ensures ∙ ap (λ last. summary_by client last.0 last.1 lane.log.log) (c.told_in.ensures ∙ c.in_ok-last.ensures client) in
    rw (c.in_ok-push.ensures.items, is)
    (append_assoc c.loop-client.all.items (f (client, lane) ∷ []) (map f c.next.new.self)
    ∙ ap (λ rest. c.loop-client.all.items ++ map f rest) (sym c.in-Some.ensures.steps) ∙ c.loop-client.invariant)

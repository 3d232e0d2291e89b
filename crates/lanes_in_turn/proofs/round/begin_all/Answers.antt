use Rattle.std.proofs.Common.{◌++◌, map, bytes_eq, append-nil, ap, sym, ◌∙◌}
use Rattle.std.proofs.lemmas.List.{nil_from_length}
use Rattle.indexmap.specs.IndexMap.{get}
use Rattle.lanes_in_turn.specs.Taking.{begun_lane}
use Rattle.lanes_in_turn.proofs.round.begin_all.Goals as goal

pub returns : goal.returns
returns g c =
    let lanes = c.loop-upload.lanes.items in
    let rest = c.loop-upload.upload-iterator.rest in
    let begun = map (begun_lane (get bytes_eq c.args.clients.now) c.args.quota) in
    sym (append-nil lanes) ∙ ap (λ left. lanes ++ begun left) (sym (nil_from_length rest.items (sym rest.ok.0 ∙ c.in-None.ensures.steps.0)))
    ∙ c.loop-upload.invariant.lanes ∙ ap begun c.into_iter-upload-iterator.ensures.into_iter_gives.0

use Rattle.std.proofs.Common.{◌++◌, map, sym, ap, ◌∙◌, append-nil}
use Rattle.std.specs.Prelude.{fold}
use Rattle.std.proofs.lemmas.List.{nil_from_length}
use Rattle.upload_lanes.specs.Threads.{both_stops}
use Rattle.replay_folder.proofs.at_once.unpacked.Goals as goal

pub returns-clause-lanes : goal.returns-clause-lanes
returns-clause-lanes g c =
    let lanes = c.loop-one.lanes.items in
    let rest = c.loop-one.one-iterator.rest in
    let none = nil_from_length rest.items (sym rest.ok.0 ∙ c.in-None.ensures.steps.0) in
    sym (append-nil lanes) ∙ ap (λ l. lanes ++ map (λ one. one.lane) l) (sym none) ∙ c.loop-one.invariant.lanes

pub returns-clause-stop : goal.returns-clause-stop
returns-clause-stop g c =
    let rest = c.loop-one.one-iterator.rest in
    let none = nil_from_length rest.items (sym rest.ok.0 ∙ c.in-None.ensures.steps.0) in
    ap (λ l. fold both_stops c.loop-one.all (map (λ one. one.stop) l)) (sym none) ∙ c.loop-one.invariant.stop

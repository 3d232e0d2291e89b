use Rattle.std.proofs.Common.{Some, ap, sym, subst}
use Rattle.std.proofs.lemmas.Result.{IfOk-weaker}
use Rattle.visit_replay.specs.Aim.{from_place, goes_by, on_target}
use Rattle.visit_replay.specs.inside.Differing.{Selects}
use Rattle.visit_replay.specs.inside.OneEvent.{AimsAt}
use Rattle.visit_replay.proofs.Asking.{selected_one}
use Rattle.visit_replay.proofs.aims.by_element.Goals as goal

pub returns-in-Some-clause-aims : goal.returns-in-Some-clause-aims
returns-in-Some-clause-aims c =
    let pages = c.args.beside.now in
    let event = c.args.event.now in
    let path = goes_by event in
    let selects : Selects pages.old path (Some c.in-Some.number) = rw (c.recorded_page-old.ensures, c.goes_by.ensures, c.in-Some.is) at c.in_ok-number.ensures.node in
    let one = ap (λ target. on_target target (from_place pages.fresh pages.old pages.new event)) (selected_one pages.old path c.in-Some.number selects) in
    IfOk-weaker c.from_node.result _ _ (λ located aims. subst (λ aim. AimsAt pages.new aim located) (sym one) aims) c.from_node.ensures.aims

use Rattle.std.proofs.Common.{◌++◌, ap, ◌∙◌, arith}
use Rattle.std.proofs.lemmas.Grind.{common_steps}
use Rattle.std.proofs.lemmas.Result.{on_ok_weaker}
use Rattle.visit_view.specs.Deciding.{below_of}
use Rattle.visit_view.proofs.Naming.{along_passing}
use Rattle.visit_view.proofs.along.add_along_part.Goals as goal

pub returns : goal.returns
returns c =
    let found = c.args.found.now in
    let below = below_of found.docket.now found.number in
    let same = along_passing found.client.now found.visits.now found.docket.now c.args.places.now below c.as_str.result.now c.as_slice.result.now
    c.requires (c.as_str.ensures.value ∙ c.in_ok-count.ensures) (c.as_slice.ensures.value ∙ c.in_ok-items.ensures) (grind (arith, common_steps)) in
    on_ok_weaker c.add_along.result (λ e. e ∙ ap (λ text. c.args.out.now.items ++ text) same) c.add_along.ensures

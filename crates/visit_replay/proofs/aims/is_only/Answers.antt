use Rattle.std.proofs.Common.{Some, false, sym, ap, ◌∙◌}
use Rattle.std.specs.Option.{option_map_or}
use Rattle.std.specs.Str.{bytes_eq}
use Rattle.page_tree.specs.Number.{place_numbered}
use Rattle.visit_replay.specs.inside.Differing.{Selects}
use Rattle.visit_replay.proofs.Numbered.{same_place}
use Rattle.visit_replay.proofs.aims.is_only.Goals as goal

pub returns-in-Some-clause-only : goal.returns-in-Some-clause-only
returns-in-Some-clause-only c =
    let t = c.args.page.now in
    let selects : Selects t c.args.path.now (Some c.in-Some.found) = rw c.in-Some.is at c.in_ok-found.ensures.node in
    sym (same_place c.args.number c.in-Some.found t c.requires.there selects.0)
    ∙ ap (λ o. option_map_or (bytes_eq (place_numbered c.args.number t)) o false) selects.1

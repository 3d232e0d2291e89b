use Rattle.std.proofs.Common.{◌≡◌, ◌+◌, ◌-◌, Some, option_map, take, drop, sym, ◌∙◌, ap, arith}
use Rattle.std.proofs.lemmas.Str.{lead_after_ascii}
use Rattle.xpath_child.proofs.Cut.{found_at, none_found}
use Rattle.xpath_child.proofs.step.cut.Goals as goal

pub range-requires-clause-end_boundary : goal.range-requires-clause-end_boundary
range-requires-clause-end_boundary c =
    let found = found_at c.args.mark c.args.text.now c.in-Some.at (sym c.in-Some.is ∙ c.place_of.ensures) in
    (omega (arith, found.0), λ inside high. absurd (omega (arith, found.1, high, c.requires)))

pub range_from-requires : goal.range_from-requires
range_from-requires c =
    let found = found_at c.args.mark c.args.text.now c.in-Some.at (sym c.in-Some.is ∙ c.place_of.ensures) in
    λ some. (omega (arith, found.0), lead_after_ascii c.args.text.now c.in-Some.at c.utf8.text (omega (arith, found.1, c.requires)))

pub returns-in-None-clause-before : goal.returns-in-None-clause-before
returns-in-None-clause-before c = none_found c.args.mark c.args.text.now (sym c.in-None.is ∙ c.place_of.ensures)

pub returns-in-None-clause-after : goal.returns-in-None-clause-after
returns-in-None-clause-after c = ap (option_map (λ i. drop (i + 1) c.args.text.now)) (sym c.in-None.is ∙ c.place_of.ensures)

pub returns-in-Some-clause-before : goal.returns-in-Some-clause-before
returns-in-Some-clause-before c =
    let found = found_at c.args.mark c.args.text.now c.in-Some.at (sym c.in-Some.is ∙ c.place_of.ensures) in
    let whole : c.in-Some.at - 0 ≡ c.in-Some.at = omega arith in
    c.range.ensures.value ∙ ap (λ n. take n c.args.text.now) whole ∙ found.2

pub returns-in-Some-clause-after : goal.returns-in-Some-clause-after
returns-in-Some-clause-after c = ap Some c.range_from.ensures.value ∙ ap (option_map (λ i. drop (i + 1) c.args.text.now)) (sym c.in-Some.is ∙ c.place_of.ensures)

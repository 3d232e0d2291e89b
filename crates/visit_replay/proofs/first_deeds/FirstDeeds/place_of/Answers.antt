use Rattle.std.proofs.Common.{◌≡◌, rules, arith}
use Rattle.std.proofs.lemmas.Grind.{common_steps}
use Rattle.visit_replay.specs.inside.FirstDeeds.{first_asked}
use Rattle.visit_replay.proofs.FirstAsked.{within_first}
use Rattle.visit_replay.proofs.first_deeds.FirstDeeds.place_of.Goals as goal

pub returns-in-Some-clause-there : goal.returns-in-Some-clause-there
returns-in-Some-clause-there c =
    let first : c.copied.result ≡ first_asked c.args.trail.now c.args.number = first_of (search rules, grind (arith, common_steps)) in
    within_first c.args.trail.now c.args.number c.copied.result first

pub returns-clause-there : goal.returns-clause-there
returns-clause-there c =
    let first : c.copied-place.result ≡ first_asked c.args.trail.now c.args.number = first_of (search rules, grind (arith, common_steps)) in
    within_first c.args.trail.now c.args.number c.copied-place.result first

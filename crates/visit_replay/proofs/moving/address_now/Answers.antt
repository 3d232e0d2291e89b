use Rattle.std.proofs.Common.{◌≡◌, ◌==◌, [], option_map, ap, sym, ◌∙◌}
use Rattle.std.proofs.lemmas.Result.{IfOk-weaker}
use Rattle.std.specs.List.{find}
use Rattle.visit_replay.specs.Moved.{requests_of}
use Rattle.visit_replay.specs.inside.Deeds.{requests_on}
use Rattle.visit_replay.proofs.FirstAsked.{address_is}
use Rattle.visit_replay.proofs.moving.address_now.Goals as goal

pub returns-in_default : goal.returns-in_default
returns-in_default c =
    let none : requests_of c.args.outcome.now ≡ [] = rw c.in_default.is at c.trail_of.ensures in
    sym (ap (λ all. option_map (λ r. r.address) (find (λ r. r.number == c.args.number) all)) none)

pub returns : goal.returns
returns c =
    let trail = c.in-Some.trail.now in
    let of : requests_of c.args.outcome.now ≡ requests_on trail.address trail.page trail.deeds.items = rw c.in-Some.is at c.trail_of.ensures in
    IfOk-weaker c.address_asked.result _ _ (λ address is. is ∙ address_is trail c.args.outcome.now c.args.number c.requires of) c.address_asked.ensures.address

pub address_asked-requires-clause-firsts : goal.address_asked-requires-clause-firsts
address_asked-requires-clause-firsts c = c.new-firsts.ensures c.in-Some.trail.now

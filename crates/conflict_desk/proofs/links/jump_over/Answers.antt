use Rattle.std.proofs.Common.{◌<◌, length, inr, rules, arith}
use Rattle.conflict_desk.proofs.Ways.{jump_leads, leads_on}
use Rattle.conflict_desk.proofs.links.jump_over.Goals as goal

pub offset_bounds-links-jump : goal.offset_bounds-links-jump
offset_bounds-links-jump c =
    let within : c.in-Some.jump < length c.args.links.now = omega
    (arith, (jump_leads c.args.links.now c.requires.back _ _ _ c.requires.parent c.in-Some.is).0, c.requires.parent) in
    search rules

pub bounds-links-jump : goal.bounds-links-jump
bounds-links-jump c = omega (arith, (jump_leads c.args.links.now c.requires.back _ _ _ c.requires.parent c.in-Some.is).0, c.requires.parent)

pub returns-then-near-far : goal.returns-then-near-far
returns-then-near-far c =
    let first = jump_leads c.args.links.now c.requires.back _ _ _ c.requires.parent c.in-Some.is in
    inr (leads_on c.args.links.now _ _ _ first (jump_leads c.args.links.now c.requires.back _ _ _ (omega (arith, first.0, c.requires.parent)) c.in-Some-jump.is))

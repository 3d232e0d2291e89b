use Rattle.std.proofs.Common.{sym}
use Rattle.conflict_desk.proofs.Ways.{new_link, parent_there}
use Rattle.conflict_desk.proofs.links.link_of.Goals as goal

pub jump_over-jump-requires-clause-parent : goal.jump_over-jump-requires-clause-parent
jump_over-jump-requires-clause-parent c = parent_there c.args.cases.now c.requires.ascending _ _ c.args.case.now c.requires.at c.in-Some.ensures.place c.in-Some.ensures.within

pub jump_over-jump-requires-clause-back : goal.jump_over-jump-requires-clause-back
jump_over-jump-requires-clause-back c = λ k link at. (c.requires.links k link at).back

pub returns : goal.returns
returns c = new_link c.args.cases.now c.args.links.now c.args.case.now _ _ _ c.requires.at c.in-Some.ensures.place (parent_there c.args.cases.now c.requires.ascending _ _ c.args.case.now c.requires.at c.in-Some.ensures.place c.in-Some.ensures.within) c.jump_over-jump.ensures

pub returns-in_default : goal.returns-in_default
returns-in_default c = record { case = c.args.case.now; at = c.requires.at; parent = sym c.in_default.ensures.place; back = (tt, tt) }

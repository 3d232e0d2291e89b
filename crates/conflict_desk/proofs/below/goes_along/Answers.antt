use Rattle.std.proofs.Common.{None, arith}
use Rattle.conflict_desk.specs.declared.links.Link.{Link}
use Rattle.conflict_desk.proofs.Along.{parent_within, goes_itself, goes_by_parent}
use Rattle.conflict_desk.proofs.below.goes_along.Goals as goal

abbrev no_link : Link
no_link = record { parent = None; jump = None; reach = 0 }

pub is_marked-requires : goal.is_marked-requires
is_marked-requires c =
    parent_within c.args.cases.now c.args.links.now c.requires.links c.args.visit c.args.place no_link (omega arith) c.args.marks.now (omega arith)

pub returns-then-cases-place : goal.returns-then-cases-place
returns-then-cases-place c = λ tell.
    goes_itself c.args.cases.now c.args.links.now c.requires.links c.args.visit c.args.place no_link (omega arith)
    c.index-cases-place.result c.requires.place c.if-cases-place.true

pub returns-else-cases-place : goal.returns-else-cases-place
returns-else-cases-place c = λ tell.
    goes_by_parent c.args.cases.now c.args.links.now c.requires.links c.args.visit c.args.place no_link (omega arith)
    c.index-cases-place.result c.requires.place c.args.marks.now c.is_marked.result c.if-cases-place.false c.is_marked.ensures tell

use Rattle.std.proofs.Common.{subst}
use Rattle.conflict_desk.specs.Desk.{AreDockets}
use Rattle.refusals.proofs.desks.desk.Goals as goal

pub open-requires : goal.open-requires
open-requires c = subst AreDockets c.as_slice.ensures.value (c.are_dockets.ensures.0 c.if-not-are_dockets.false)

use Rattle.std.proofs.Common.{sym, subst}
use Rattle.conflict_desk.specs.Docket.{AreAscending}
use Rattle.conflict_desk.proofs.open_docket.OpenDocket.cases.Goals as goal

pub returns-clause-ascend : goal.returns-clause-ascend
returns-clause-ascend c = subst AreAscending (sym c.as_slice.ensures) c.self.invariant.0.ascending

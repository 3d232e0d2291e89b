use Rattle.std.proofs.Common.{ap, ◌∙◌}
use Rattle.conflict_desk.specs.Book.{front_visit}
use Rattle.conflict_desk.proofs.Keeping.{front_at, front_none}
use Rattle.conflict_desk.proofs.open_docket.OpenDocket.front.Goals as goal

pub returns-then-self-cases : goal.returns-then-self-cases
returns-then-self-cases c = front_at _ _ _ _ c.self.invariant.0 _ _ c.as_slice-cases.ensures c.if-self-cases.true ∙ ap front_visit c.self.view_is

pub returns-else-self-cases : goal.returns-else-self-cases
returns-else-self-cases c = front_none _ _ _ _ c.self.invariant.0 _ c.as_slice-cases.ensures c.if-self-cases.false ∙ ap front_visit c.self.view_is

use Rattle.visit_replay.proofs.conflicts.judged.Goals as goal

pub conflict_at-requires-clause-there : goal.conflict_at-requires-clause-there
conflict_at-requires-clause-there c = let (aim, is) = c.requires.located in (rw c.in-At.is at is).0

pub conflict_at-requires-clause-button : goal.conflict_at-requires-clause-button
conflict_at-requires-clause-button c = let (aim, is) = c.requires.located in (rw c.in-At.is at is).1

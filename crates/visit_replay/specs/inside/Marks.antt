-- Deeds that are marked on a visit's own trail.
use Rattle.std.specs.Prelude.{ℕ, ◌<◌, List, All, length, Option, IfSome}
use Rattle.visit_replay.specs.declared.trail.Trail.{Trail}

-- they are deeds of it
abbrev pub AreMarks : Trail → List (Option ℕ) → Type 0
AreMarks own marks = All (λ mark. IfSome mark (λ place. place < length own.deeds.items)) marks

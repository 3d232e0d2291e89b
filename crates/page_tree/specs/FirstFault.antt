-- Faults in the order of their checks, of which the first one counts.
use Rattle.std.specs.Prelude.{Bool, if◌then◌else◌, Option, Some, None, Result, Ok, Err}

-- the fault unless the test holds, and then what comes after it
abbrev pub unless : {F : Type 0} → Bool → F → Option F → Option F
unless test fault later = if test then later else Some fault

-- the value, or the fault where there is one
abbrev pub ok_unless : {A F : Type 0} → Option F → A → Result A F
ok_unless None x = Ok x
ok_unless (Some fault) x = Err fault

-- the first fault, or what comes of the value
infixl 10 ◌>>=◌
abbrev pub ◌>>=◌ : {A B F : Type 0} → Result A F → (A → Result B F) → Result B F
(Ok x) >>= f = f x
(Err fault) >>= f = Err fault

-- Words that the page has: this project's own rule.
use Rattle.std.specs.Prelude.{ℕ, List, ◌++◌, ◌==◌, if◌then◌else◌, codes, decimal}
use Rattle.conflict_desk.specs.declared.decided.Standing.{Standing}
use Rattle.conflict_desk.specs.declared.decided.Standing.TheVariants.{Untouched, Done, Waiting, Kept, Cancelled}

abbrev pub counted_visits : ℕ → List ℕ
counted_visits count = if count == 1 then codes "1 visit" else decimal count ++ codes " visits"

-- how a visit stands, in the words of the report, which are the classes of the page's style, too
abbrev pub state_word : Standing → List ℕ
state_word Untouched = codes "untouched"
state_word Done = codes "done"
state_word Waiting = codes "waiting"
state_word Kept = codes "kept"
state_word Cancelled = codes "cancelled"

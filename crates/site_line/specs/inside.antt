-- What the readers of a site line answer, want of memory left aside.
use Rattle.std.specs.Prelude.{◌≡◌, Option, Some, None, Result, Ok, Err}
use Rattle.site_line.specs.declared.fault.SiteFault.{SiteFault}
use Rattle.site_line.specs.declared.fault.SiteFault.TheVariants.{NotJson, BadMember, NoMemory}

-- Z2 only where this holds
abbrev pub FailsWhere : Type 0 → SiteFault → Type 0
FailsWhere wrong NotJson = ⊥
FailsWhere wrong BadMember = wrong
FailsWhere wrong NoMemory = Unit {0}

abbrev pub GivesSite : {X Y : Type 0} → (X → Y) → Result X SiteFault → Option Y → Type 0
GivesSite view (Ok x) found = found ≡ Some (view x)
GivesSite view (Err e) found = FailsWhere (found ≡ None) e

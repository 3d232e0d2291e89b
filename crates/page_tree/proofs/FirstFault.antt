-- Where there is no first fault, no check has failed; and the other way round.
use Rattle.std.proofs.Common.{◌≡◌, Bool, true, false, Option, Some, None, refl, ◌∙◌, ap}
use Rattle.std.specs.Option.{option_or}
use Rattle.page_tree.specs.FirstFault.{unless}

pub unless-none : {F : Type 0} (test : Bool) (fault : F) (later : Option F) → unless test fault later ≡ None → (test ≡ true) × (later ≡ None)
unless-none true fault later none = (refl, none)
unless-none false fault later none = cc

pub none-unless : {F : Type 0} (test : Bool) (fault : F) (later : Option F) → test ≡ true → later ≡ None → unless test fault later ≡ None
none-unless test fault later passed none = ap (λ b. unless b fault later) passed ∙ none

pub option_or-none : {F : Type 0} (first later : Option F) → option_or first later ≡ None → (first ≡ None) × (later ≡ None)
option_or-none None later none = (refl, none)
option_or-none (Some fault) later none = cc

pub none-option_or : {F : Type 0} (first later : Option F) → first ≡ None → later ≡ None → option_or first later ≡ None
none-option_or first later none rest = ap (λ o. option_or o later) none ∙ rest

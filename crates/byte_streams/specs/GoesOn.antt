-- An input that goes on: this project's own rule.
use Rattle.std.specs.Prelude.{◌≡◌, ℕ, List, [], ◌++◌, Option, IsSome}
use Rattle.byte_streams.specs.declared.fault.LineFault.{LineFault}

-- it goes on with more bytes to another ending, unless it had ended
pub record GoesOn (bytes bytes' : List ℕ) (ending ending' : Option LineFault) : Type 0 where
  pub more : List ℕ
  pub bytes_are : bytes' ≡ bytes ++ more
  pub ended : IsSome ending → (more ≡ []) × (ending' ≡ ending)

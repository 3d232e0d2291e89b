-- Numbers of pages.
use Rattle.std.proofs.Common.{◌≡◌, ℕ, suc, ◌+◌, ◌-◌, ◌<◌, ◌∷◌, ap, arith}
use Rattle.std.specs.List.{range_with_len}

-- those up to a number, from one below it on
pub range_first : (from end : ℕ) → from < end → range_with_len from (end - from) ≡ from ∷ range_with_len (from + 1) (end - (from + 1))
range_first from end below =
    let split : end - from ≡ suc (end - (from + 1)) = omega arith in
    ap (range_with_len from) split

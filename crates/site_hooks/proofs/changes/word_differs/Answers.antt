use Rattle.std.proofs.Common.{◌≡◌, ◌+◌, ◌-◌, ◌*◌, ◌^◌, ◌%◌, sym, ◌∙◌, ap, arith, w64}
use Rattle.std.specs.Prelude.{min}
use Rattle.std.specs.Int.{trailing_zeros, bit_not}
use Rattle.std.proofs.lemmas.Nat.Bits.{bit_at-trailing_zeros, bit_at_clear_same, bit_at_clear_other}
use Rattle.site_hooks.specs.Findings.{found_differ}
use Rattle.site_hooks.proofs.ChangeLaws.{next_same}
use Rattle.site_hooks.proofs.WordNotes.{less_left}
use Rattle.site_hooks.proofs.changes.word_differs.Goals as goal

pub loop-left-smaller : goal.loop-left-smaller
loop-left-smaller c =
    let left = c.loop-left.left in
    let bit = trailing_zeros w64 left in
    let lowest = bit_at-trailing_zeros w64 left (omega (arith, c.loop-left-test.true)) (omega (arith, c.loop-left.auto.left-fits)) in
    less_left left (bit_not w64 (1 * 2 ^ bit % 2 ^ 64)) bit lowest.1 (bit_at_clear_same w64 left bit lowest.0)

pub loop-left-smaller-then-not-are_same : goal.loop-left-smaller-then-not-are_same
loop-left-smaller-then-not-are_same c =
    let left = c.loop-left.left in
    let bit = trailing_zeros w64 left in
    let lowest = bit_at-trailing_zeros w64 left (omega (arith, c.loop-left-test.true)) (omega (arith, c.loop-left.auto.left-fits)) in
    less_left left (bit_not w64 (1 * 2 ^ bit % 2 ^ 64)) bit lowest.1 (bit_at_clear_same w64 left bit lowest.0)

pub loop-left-preserved : goal.loop-left-preserved
loop-left-preserved c =
    let left = c.loop-left.left in
    let bit = trailing_zeros w64 left in
    let lowest = bit_at-trailing_zeros w64 left (omega (arith, c.loop-left-test.true)) (omega (arith, c.loop-left.auto.left-fits)) in
    let number_is : c.saturating_add-number.result ≡ min (min (c.args.index * 64) (2 ^ 64 - 1) + bit) (2 ^ 64 - 1) = omega (arith, c.saturating_add-number.ensures, c.saturating_mul.ensures) in
    let now = ap (λ p. found_differ c.args.old.now p.0 c.args.new.now p.1) (c.are_same.ensures c.if-not-are_same.false) ∙ c.loop-left.invariant.same in
    record {
      same = c.loop-left.invariant.same;
      each = next_same c.args.old.now c.args.new.now c.args.before.now c.args.after.now c.args.index bit c.saturating_add-number.result number_is
          (omega (arith, c.args.before.now.found.ok, c.args.before.now.found.small)) (omega (arith, c.args.after.now.found.ok, c.args.after.now.found.small)) c.at.result c.at-in-loop-left.result c.at.ensures c.at-in-loop-left.ensures now
          c.args.bits left _ (bit_at_clear_other w64 left bit lowest.0) c.loop-left.invariant.each;
    }

pub loop-left-preserved-then-not-are_same : goal.loop-left-preserved-then-not-are_same
loop-left-preserved-then-not-are_same c =
    let left = c.loop-left.left in
    let bit = trailing_zeros w64 left in
    let lowest = bit_at-trailing_zeros w64 left (omega (arith, c.loop-left-test.true)) (omega (arith, c.loop-left.auto.left-fits)) in
    let number_is : c.saturating_add-number.result ≡ min (min (c.args.index * 64) (2 ^ 64 - 1) + bit) (2 ^ 64 - 1) = omega (arith, c.saturating_add-number.ensures, c.saturating_mul.ensures) in
    let now = sym c.differs.ensures ∙ c.if-differs.false in
    record {
      same = now;
      each = next_same c.args.old.now c.args.new.now c.args.before.now c.args.after.now c.args.index bit c.saturating_add-number.result number_is
          (omega (arith, c.args.before.now.found.ok, c.args.before.now.found.small)) (omega (arith, c.args.after.now.found.ok, c.args.after.now.found.small)) c.at.result c.at-in-loop-left.result c.at.ensures c.at-in-loop-left.ensures now
          c.args.bits left _ (bit_at_clear_other w64 left bit lowest.0) c.loop-left.invariant.each;
    }

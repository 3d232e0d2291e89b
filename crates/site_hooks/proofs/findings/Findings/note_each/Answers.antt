use Rattle.std.proofs.Common.{◌+◌, ◌*◌, ◌%◌, ◌^◌, length, get_or, unwrap_or, sym, ◌∙◌, ap, subst, arith, w64}
use Rattle.std.specs.Prelude.{bit_and}
use Rattle.std.specs.Int.{bit_at, trailing_zeros, bit_not}
use Rattle.site_hooks.specs.Sets.{Has}
use Rattle.std.proofs.lemmas.Nat.Bits.{bit_at-trailing_zeros, bit_at_clear_same, bit_at_clear_other}
use Rattle.site_hooks.proofs.WordNotes.{none_noted, same_found, next_noted, left_before, less_left}
use Rattle.site_hooks.proofs.findings.Findings.note_each.Goals as goal

pub loop-left-init : goal.loop-left-init
loop-left-init c =
    let self = c.args.self.now in
    let new = c.reach.new.self in
    let none = none_noted c.args.index c.args.bits c.args.at c.unwrap_or-settled.result self
    (c.unwrap_or-settled.ensures ∙ ap (λ o. unwrap_or o 0) c.copied.ensures ∙ c.get.ensures.lookup.4 (omega arith) 0
    ∙ ap (λ words. get_or words c.args.index 0) (c.deref.ensures.value ∙ ap (λ v. v.items) c.reach.ensures.settled)) (omega (arith, c.unwrap_or-settled.type_inv)) in
    record {
      noted = same_found c.args.index c.args.bits c.args.at _ self self new none c.reach.ensures.found;
      reached = λ k of less. c.reach.ensures.has k (none.among k of) (omega (arith, less, ap (λ f. length f.items) c.reach.ensures.found));
    }

pub note-requires-clause-reached : goal.note-requires-clause-reached
note-requires-clause-reached c =
    let left = c.loop-left.left in
    let bit = trailing_zeros w64 left in
    let lowest = bit_at-trailing_zeros w64 left (omega (arith, c.loop-left-test.true)) (omega (arith, c.loop-left.auto.left-fits)) in
    λ less. c.loop-left.invariant.reached (c.args.index * 64 + bit) (omega (arith, lowest.0), ap (bit_at left) (omega (arith, lowest.0)) ∙ lowest.1) less

pub loop-left-smaller : goal.loop-left-smaller
loop-left-smaller c =
    let left = c.loop-left.left in
    let bit = trailing_zeros w64 left in
    let lowest = bit_at-trailing_zeros w64 left (omega (arith, c.loop-left-test.true)) (omega (arith, c.loop-left.auto.left-fits)) in
    less_left left (bit_not w64 (1 * 2 ^ bit % 2 ^ 64)) bit lowest.1 (bit_at_clear_same w64 left bit lowest.0)

pub loop-left-preserved : goal.loop-left-preserved
loop-left-preserved c =
    let left = c.loop-left.left in
    let bit = trailing_zeros w64 left in
    let lowest = bit_at-trailing_zeros w64 left (omega (arith, c.loop-left-test.true)) (omega (arith, c.loop-left.auto.left-fits)) in
    let mask = bit_not w64 (1 * 2 ^ bit % 2 ^ 64) in
    record {
      noted = next_noted c.args.index c.args.bits c.args.at left (bit_and left mask) bit c.args.self.now c.loop-left.self c.note.new.self c.loop-left.invariant.noted lowest.0 lowest.1
          (bit_at_clear_same w64 left bit lowest.0) (bit_at_clear_other w64 left bit lowest.0) c.note.ensures.len c.note.ensures.noted;
      reached = λ k of less. subst (λ words. Has words.items k) (sym c.note.ensures.reached)
          (c.loop-left.invariant.reached k (of.0, left_before left mask (k % 64) of.1) (omega (arith, less, c.note.ensures.len)));
    }

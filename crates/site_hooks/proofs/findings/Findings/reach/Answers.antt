use Rattle.std.proofs.Common.{◌<◌, inl, inr, length, ◌∙◌, arith}
use Rattle.std.specs.Prelude.{bit_or}
use Rattle.std.proofs.lemmas.List.{get_or_default, length-set}
use Rattle.site_hooks.proofs.WordNotes.{reaches_more}
use Rattle.site_hooks.proofs.findings.Findings.reach.Goals as goal

pub invariant_of-self : goal.invariant_of-self
invariant_of-self c =
    let self = c.args.self.now in
    let words = self.reached.items in
    let word = c.index_mut.result.now in
    let less : c.args.index < length words = omega (arith, c.if-index-len.true, c.len.ensures, self.reached.ok) in
    let is = c.index_mut.ensures.value ∙ get_or_default words c.args.index word 0 less in
    record {
      room = omega (arith, self.room, length-set words c.args.index (bit_or word c.args.bits));
      none = λ k not. self.none k (λ was. not (reaches_more words c.args.index word c.args.bits is less k (inl was)));
      several = self.several;
    }

pub returns-then-index-len-clause-has : goal.returns-then-index-len-clause-has
returns-then-index-len-clause-has c = λ k of few.
    let self = c.args.self.now in
    let words = self.reached.items in
    let word = c.index_mut.result.now in
    let less : c.args.index < length words = omega (arith, c.if-index-len.true, c.len.ensures, self.reached.ok) in
    reaches_more words c.args.index word c.args.bits (c.index_mut.ensures.value ∙ get_or_default words c.args.index word 0 less) less k (inr of)

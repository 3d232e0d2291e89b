use Rattle.std.proofs.Common.{◌<◌, length, get_or, ◌∙◌, ap, subst, arith, take_all}
use Rattle.std.proofs.lemmas.List.{get_or_default}
use Rattle.site_hooks.specs.declared.number_set.Word.{Word}
use Rattle.site_hooks.specs.Sets.{IsOfWords, AddsSome}
use Rattle.site_hooks.proofs.SetLaws.{added_more}
use Rattle.site_hooks.proofs.number_set.NumberSet.add_common.Goals as goal

pub loop-word-preserved : goal.loop-word-preserved
loop-word-preserved c =
    let words = c.args.self.now.words.items in
    let i = c.loop-word.word-index in
    let none : Word = record { index = 0; bits = 0 } in
    let less : i < length words = omega (arith, c.loop-word-test.true, c.loop-word.auto.word-index-end, c.deref-word-items.ensures.len, ap length c.deref-word-items.ensures.value) in
    record {
      len = c.add_common.ensures.len;
      adds = added_more words i (get_or c.deref-word-items.result.now i none) less (ap (λ ws. get_or ws i none) c.deref-word-items.ensures.value ∙ get_or_default words i none (get_or c.deref-word-items.result.now i none) less) c.args.others.now c.args.into.now c.loop-word.into c.add_common.new.into
          c.loop-word.invariant.adds c.add_common.ensures.adds;
    }

pub returns-clause-adds : goal.returns-clause-adds
returns-clause-adds c = subst (λ words. AddsSome (IsOfWords words) c.args.others.now c.args.into.now c.loop-word.into) (take_all c.loop-word.word-index c.args.self.now.words.items (omega arith)) c.loop-word.invariant.adds

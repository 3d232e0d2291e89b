use Rattle.std.proofs.Common.{◌≡◌, length, take}
use Rattle.site_hooks.specs.Sets.{IsOfWords, AddsSome}
use Rattle.site_hooks.proofs.number_set.NumberSet.add_common.Given as goal

abbrev pub invariant-loop-word : goal.invariant-loop-word
invariant-loop-word l = record {
  len : length l.into ≡ length l.others;
  adds : AddsSome (IsOfWords (take l.word-index l.self.words.items)) l.others l.fn.into l.into;
}

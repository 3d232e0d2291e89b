use Rattle.std.proofs.Common.{◌≡◌, ◌++◌, drop}
use Rattle.markup.specs.Escaping.{escaped}
use Rattle.markup.proofs.words.add_words.Given as goal

abbrev pub invariant-loop-c : goal.invariant-loop-c
invariant-loop-c l = l.out.items ++ escaped (drop l.c-index l.c-items) ≡ l.initial.out.items ++ escaped l.c-items

use Rattle.std.proofs.Common.{take}
use Rattle.page_looks.specs.inside.Told.{told_seen}
use Rattle.page_looks.specs.inside.Shapes.{told_texts}
use Rattle.page_looks.specs.inside.Numbering.{PushesTexts}
use Rattle.page_looks.proofs.shapes.push_told.Given as goal

abbrev pub invariant-loop-pair : goal.invariant-loop-pair
invariant-loop-pair l =
    PushesTexts l.below l.initial.own l.own l.initial.key.items l.key.items (told_texts (told_seen (take l.pair-index l.told)))

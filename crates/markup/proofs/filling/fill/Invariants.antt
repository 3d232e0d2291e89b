use Rattle.std.proofs.Common.{◌≡◌, ◌++◌, drop}
use Rattle.markup.specs.Filling.{filled, texts_seen}
use Rattle.markup.proofs.filling.fill.Given as goal

abbrev pub invariant-loop-part : goal.invariant-loop-part
invariant-loop-part l =
    l.out.items ++ filled (texts_seen l.words) (texts_seen l.made) (drop l.part-index l.piece) ≡ l.initial.out.items ++ filled (texts_seen l.words) (texts_seen l.made) l.piece

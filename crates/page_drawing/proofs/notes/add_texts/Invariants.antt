use Rattle.page_drawing.specs.Drawn.{DrawsBehind}
use Rattle.page_drawing.proofs.notes.add_texts.Given as goal

abbrev pub invariant-loop-text : goal.invariant-loop-text
invariant-loop-text l = DrawsBehind l.initial.out.items l.out.items

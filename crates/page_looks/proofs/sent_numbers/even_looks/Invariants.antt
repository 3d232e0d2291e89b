use Rattle.page_looks.proofs.SentLaws.{EvenSoFar}
use Rattle.page_looks.proofs.sent_numbers.even_looks.Given as goal

abbrev pub invariant-loop-i : goal.invariant-loop-i
invariant-loop-i l = EvenSoFar l.looks l.first l.sends l.even.items l.i

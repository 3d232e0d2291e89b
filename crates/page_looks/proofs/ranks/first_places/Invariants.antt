use Rattle.page_looks.proofs.PlaceLaws.{FirstSoFar}
use Rattle.page_looks.proofs.ranks.first_places.Given as goal

abbrev pub invariant-loop-i : goal.invariant-loop-i
invariant-loop-i l = FirstSoFar l.numbers l.places.items l.count l.i

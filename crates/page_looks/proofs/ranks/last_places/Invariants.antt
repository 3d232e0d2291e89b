use Rattle.page_looks.proofs.PlaceLaws.{LastSoFar}
use Rattle.page_looks.proofs.ranks.last_places.Given as goal

abbrev pub invariant-loop-i : goal.invariant-loop-i
invariant-loop-i l = LastSoFar l.numbers l.places.items l.count l.i

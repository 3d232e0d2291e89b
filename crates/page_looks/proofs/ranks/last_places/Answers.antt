use Rattle.std.proofs.Common.{◌≡◌, ◌<◌, ◌+◌, length, get_or, slice_get, Some, refl, arith}
use Rattle.std.proofs.lemmas.Option.{slice_get-get_or}
use Rattle.page_looks.proofs.PlaceLaws.{last_more, last_all}
use Rattle.page_looks.proofs.ranks.last_places.Goals as goal

pub loop-i-preserved : goal.loop-i-preserved
loop-i-preserved c =
    let numbers = c.args.numbers.now in
    let less : c.loop-i.i < length numbers = omega arith in
    let at : slice_get numbers c.loop-i.i ≡ Some (get_or numbers c.loop-i.i 0) = slice_get-get_or numbers c.loop-i.i 0 less in
    last_more numbers c.loop-i.places.items _ c.args.count c.loop-i.i (get_or numbers c.loop-i.i 0) c.in_ok-place.place (c.loop-i.i + 1) c.loop-i.invariant
    at (c.requires c.loop-i.i _ at) c.in_ok-place.ensures refl refl

pub returns : goal.returns
returns c = last_all c.args.numbers.now c.loop-i.places.items c.args.count c.loop-i.i c.loop-i.invariant (omega arith)

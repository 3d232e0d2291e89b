use Rattle.std.proofs.Common.{◌≡◌, ◌<◌, ◌+◌, ◌-◌, length, get_or, slice_get, Some, refl, arith}
use Rattle.std.proofs.lemmas.Option.{slice_get-get_or}
use Rattle.page_looks.proofs.PlaceLaws.{first_more, first_all}
use Rattle.page_looks.proofs.ranks.first_places.Goals as goal

pub loop-i-preserved : goal.loop-i-preserved
loop-i-preserved c =
    let numbers = c.args.numbers.now in
    let index = length numbers - 1 - c.loop-i.i in
    let less : c.loop-i.i < length numbers = omega arith in
    let within : length numbers - 1 - c.loop-i.i < length numbers = omega arith in
    let left : length numbers - 1 - c.loop-i.i + 1 + c.loop-i.i ≡ length numbers = omega arith in
    let at : slice_get numbers (length numbers - 1 - c.loop-i.i) ≡ Some (get_or numbers (length numbers - 1 - c.loop-i.i) 0) =
    slice_get-get_or numbers index 0 within in
    first_more numbers c.loop-i.places.items _ c.args.count c.loop-i.i index (get_or numbers index 0) c.in_ok-place.place (c.loop-i.i + 1) c.loop-i.invariant
    at (c.requires index _ at) left c.in_ok-place.ensures refl refl

pub returns : goal.returns
returns c = first_all c.args.numbers.now c.loop-i.places.items c.args.count c.loop-i.i c.loop-i.invariant (omega arith)

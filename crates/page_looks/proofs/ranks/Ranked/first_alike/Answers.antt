use Rattle.std.proofs.Common.{◌≡◌, ◌-◌, suc, sym, arith}
use Rattle.page_looks.proofs.PlaceLaws.{none_first, some_first}
use Rattle.page_looks.proofs.ranks.Ranked.first_alike.Goals as goal

pub returns-then-place-eq0 : goal.returns-then-place-eq0
returns-then-place-eq0 c =
    none_first c.args.self.now.looks.items c.args.new.now.looks.items c.args.new.now.first.items c.args.rank c.in_ok-look.look c.in_ok-place.place c.requires
    (rw c.as_slice.ensures.value at (sym c.in_ok-look.ensures)) (rw c.as_slice-2.ensures.value at (sym c.in_ok-place.ensures)) c.if-place-eq0.true

pub returns-else-place-eq0 : goal.returns-else-place-eq0
returns-else-place-eq0 c =
    let more : c.in_ok-place.place ≡ suc (c.in_ok-place.place - 1) = omega (arith, c.if-place-eq0.false) in
    some_first c.args.self.now.looks.items c.args.new.now.looks.items c.args.new.now.first.items c.args.rank c.in_ok-look.look c.in_ok-place.place
    (c.in_ok-place.place - 1) c.requires (rw c.as_slice.ensures.value at (sym c.in_ok-look.ensures))
    (rw c.as_slice-2.ensures.value at (sym c.in_ok-place.ensures)) more

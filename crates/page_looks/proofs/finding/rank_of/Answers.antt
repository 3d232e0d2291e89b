use Rattle.std.proofs.Common.{◌≡◌, ◌-◌, suc, Some, sym, ap, ◌∙◌, arith}
use Rattle.page_looks.proofs.FindLaws.{rank_none, rank_zero, rank_some}
use Rattle.page_looks.proofs.finding.rank_of.Goals as goal

pub returns-in-None : goal.returns-in-None
returns-in-None c = rank_none c.args.ranked.now c.args.number (rw c.as_slice.ensures.value at (sym c.in-None.ensures))

pub returns-then-place-eq0 : goal.returns-then-place-eq0
returns-then-place-eq0 c =
    rank_zero c.args.ranked.now c.args.number ((rw c.as_slice.ensures.value at (sym c.in-Some.ensures)) ∙ ap Some c.if-place-eq0.true)

pub returns-else-place-eq0 : goal.returns-else-place-eq0
returns-else-place-eq0 c =
    let more : c.in-Some.place ≡ suc (c.in-Some.place - 1) = omega (arith, c.if-place-eq0.false) in
    rank_some c.args.ranked.now c.args.number c.in-Some.place (c.in-Some.place - 1) (rw c.as_slice.ensures.value at (sym c.in-Some.ensures)) more

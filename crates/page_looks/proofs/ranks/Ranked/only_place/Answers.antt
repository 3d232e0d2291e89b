use Rattle.std.proofs.Common.{sym}
use Rattle.page_looks.proofs.PlaceLaws.{not_alone}
use Rattle.page_looks.proofs.ranks.Ranked.only_place.Goals as goal

pub returns-else-first-last : goal.returns-else-first-last
returns-else-first-last c =
    not_alone c.args.self.now.looks.items c.args.self.now.first.items c.args.self.now.last.items c.args.look c.in_ok-first.first
    c.in_ok-last.last c.requires.first c.requires.last (rw c.as_slice.ensures.value at (sym c.in_ok-first.ensures))
    (rw c.as_slice-2.ensures.value at (sym c.in_ok-last.ensures)) c.if-first-last.false

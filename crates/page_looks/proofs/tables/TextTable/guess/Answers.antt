use Rattle.std.specs.Cow.{cow_str_bytes}
use Rattle.page_looks.proofs.KeptOnce.{seen_there}
use Rattle.page_looks.proofs.tables.TextTable.guess.Goals as goal

pub returns-then-eq : goal.returns-then-eq
returns-then-eq c =
    rw (← c.self.view_is)
    (seen_there cow_str_bytes c.self.inside.set.keys c.in_ok-place.place c.in-Some.there.now c.as_str.result.now c.args.text.now c.eq.result
    (rw c.in-Some.is at c.get_index.ensures.key) c.as_str.ensures.value c.eq.ensures c.if-eq.true)

use Rattle.page_looks.proofs.KeptOnce.{seen_there}
use Rattle.page_looks.proofs.tables.KeyTable.guess.Goals as goal

pub returns-then-eq : goal.returns-then-eq
returns-then-eq c =
    rw (← c.self.view_is)
    (seen_there (λ v. v.items) c.self.inside.set.keys c.in_ok-place.place c.in-Some.there.now c.as_slice.result.now c.args.key.now c.eq.result
    (rw c.in-Some.is at c.get_index.ensures.key) c.as_slice.ensures.value c.eq.ensures c.if-eq.true)

use Rattle.page_looks.proofs.KeptOnce.{find_by}
use Rattle.page_looks.proofs.tables.KeyTable.find.Goals as goal

pub returns : goal.returns
returns c =
    rw (← c.self.view_is)
    (find_by (λ v. v.items) c.args.key.now c.self.inside.set.keys c.get_index_of.result c.get_index_of.ensures.index c.get_index_of.ensures.found)

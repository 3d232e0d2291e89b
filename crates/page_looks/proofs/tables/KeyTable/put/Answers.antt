use Rattle.page_looks.proofs.KeptOnce.{put_by}
use Rattle.page_looks.proofs.tables.KeyTable.put.Goals as goal

pub returns : goal.returns
returns c =
    rw (← c.self.view_is)
    (put_by (λ v. v.items) c.args.key c.self.inside.set.keys c.insert_full.new.self.keys c.in_ok-put.put.0 c.in_ok-put.ensures.keys c.in_ok-put.ensures.index c.in_ok-put.ensures.stored)

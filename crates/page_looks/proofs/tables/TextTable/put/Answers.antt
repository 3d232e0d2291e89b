use Rattle.std.specs.Cow.{cow_str_bytes}
use Rattle.page_looks.proofs.KeptOnce.{put_by}
use Rattle.page_looks.proofs.tables.TextTable.put.Goals as goal

pub returns : goal.returns
returns c =
    rw (← c.self.view_is)
    (put_by cow_str_bytes c.args.text c.self.inside.set.keys c.insert_full.new.self.keys c.in_ok-put.put.0 c.in_ok-put.ensures.keys c.in_ok-put.ensures.index c.in_ok-put.ensures.stored)

use Rattle.std.specs.Cow.{cow_str_bytes}
use Rattle.page_looks.proofs.KeptOnce.{find_by}
use Rattle.page_looks.proofs.tables.TextTable.find.Goals as goal

pub returns : goal.returns
returns c =
    rw (← c.self.view_is)
    (find_by cow_str_bytes c.args.text.now c.self.inside.set.keys c.get_index_of.result c.get_index_of.ensures.index c.get_index_of.ensures.found)

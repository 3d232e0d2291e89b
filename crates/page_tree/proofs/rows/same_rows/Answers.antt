use Rattle.std.proofs.lemmas.Slice.Eq.{slice_eq-Decides}
use Rattle.page_tree.proofs.SameLines.{row_same}
use Rattle.page_tree.proofs.rows.same_rows.Goals as goal

pub returns : goal.returns
returns c = (slice_eq-Decides row_same c.args.rows.now c.args.others.now c.eq.result c.eq.ensures).0

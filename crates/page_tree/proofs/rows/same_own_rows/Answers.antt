use Rattle.std.proofs.lemmas.Slice.Eq.{slice_eq-Decides}
use Rattle.page_tree.proofs.SameLines.{own_same}
use Rattle.page_tree.proofs.rows.same_own_rows.Goals as goal

pub returns : goal.returns
returns c = (slice_eq-Decides own_same c.args.rows.now c.args.others.now c.eq.result c.eq.ensures).0

use Rattle.std.proofs.Common.{arith, refl}
use Rattle.std.proofs.lemmas.List.{ext_get_or}
use Rattle.page_tree.proofs.table.NodeTable.same.Goals as goal

pub returns : goal.returns
returns c = (
  λ h. ext_get_or _ c.args.self.now c.args.other.now c.loop-number.invariant.lengths
      (λ k less. c.loop-number.invariant.before k (omega (arith, less, c.loop-number-test.false, c.len-number-end.ensures))),
  λ same. refl,
)

use Rattle.std.proofs.Common.{sym, ◌∙◌, ap}
use Rattle.page_tree.specs.inside.Table.{lines}
use Rattle.page_tree.proofs.KeptLaws.{same_trees}
use Rattle.page_tree.proofs.page.Page.same.Goals as goal

pub returns : goal.returns
returns c = (
  λ yes. same_trees c.args.self.now c.args.other.now (sym c.table.ensures.lines ∙ c.same.ensures.0 yes ∙ c.table-2.ensures.lines),
  λ same. c.same.ensures.1 (c.table.ensures.lines ∙ ap lines same ∙ sym c.table-2.ensures.lines),
)

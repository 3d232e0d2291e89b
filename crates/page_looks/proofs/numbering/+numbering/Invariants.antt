use Rattle.std.proofs.Common.{◌+◌, ◌*◌, ◌-◌, ◌++◌}
use Rattle.page_tree.specs.Limits.{nodes}
use Rattle.page_looks.specs.inside.Told.{told_by}
use Rattle.page_looks.specs.inside.InForms.{IsReady}
use Rattle.page_looks.proofs.PartLaws.{PartsSoFar}
use Rattle.page_looks.proofs.numbering.+numbering.Given as goal

abbrev pub decreases-number_node : goal.decreases-number_node
decreases-number_node l = 3 * (nodes l.page.now - l.number) + 1

abbrev pub decreases-number_child : goal.decreases-number_child
decreases-number_child l = 3 * (nodes l.page.now - l.child) + 2

abbrev pub decreases-number_parts : goal.decreases-number_parts
decreases-number_parts l = 3 * (nodes l.page.now - l.number)

abbrev pub invariant-number_parts-loop-i : goal.invariant-number_parts-loop-i
invariant-number_parts-loop-i l = record {
  parts : PartsSoFar (told_by l.telling) l.page l.number l.below l.initial.own l.own l.initial.seen.items l.seen.items l.initial.looks.items l.looks.items l.initial.key.items
      l.key.items l.child l._i;
  ready : IsReady l.telling (l.below.texts ++ l.own.texts) l.page;
}

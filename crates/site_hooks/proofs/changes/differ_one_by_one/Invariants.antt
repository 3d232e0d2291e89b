use Rattle.std.proofs.Common.{◌≡◌, drop}
use Rattle.std.specs.List.{list_any}
use Rattle.site_hooks.specs.Table.{is_changed}
use Rattle.site_hooks.proofs.changes.differ_one_by_one.Given as goal

abbrev pub invariant-loop-number : goal.invariant-loop-number
invariant-loop-number l = list_any (is_changed l.old l.new) (drop l.number l.paths) ≡ list_any (is_changed l.old l.new) l.paths

use Rattle.std.proofs.Common.{length}
use Rattle.json_document.specs.Standing.{items_behind}
use Rattle.site_file.specs.Addition.{address_item}
use Rattle.site_file.proofs.ItemsLaws.{ItemsSoFar}
use Rattle.site_file.proofs.adding.read_addresses.Given as goal

abbrev pub invariant-loop-item : goal.invariant-loop-item
invariant-loop-item l = ItemsSoFar address_item l.all.items (items_behind l.items) (items_behind l.initial.items)

abbrev pub decreases-loop-item : goal.decreases-loop-item
decreases-loop-item l = length l.items

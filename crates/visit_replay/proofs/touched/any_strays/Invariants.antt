use Rattle.std.proofs.Common.{◌≡◌, false, take}
use Rattle.std.specs.List.{list_any}
use Rattle.page_tree.specs.Number.{place_numbered}
use Rattle.visit_replay.specs.inside.TouchedFields.{strays_now}
use Rattle.visit_replay.proofs.touched.any_strays.Given as goal

abbrev pub invariant-loop-field : goal.invariant-loop-field
invariant-loop-field l = list_any (strays_now l.old l.new (place_numbered l.form l.old) (place_numbered l.other l.new)) (take l.field-index l.fields) ≡ false

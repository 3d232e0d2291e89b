use Rattle.std.proofs.Common.{refl}
use Rattle.serde_json.specs.Data.{no_members}
use Rattle.page_tree.proofs.parts.Parts.of.Goals as goal

pub loop-name-init : goal.loop-name-init
loop-name-init c = (no_members, record { name = refl; attributes = refl; children = refl }, refl)

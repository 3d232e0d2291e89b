use Rattle.std.proofs.Common.{◌≡◌, length}
use Rattle.serde_json.specs.Data.{Members, object, no_members}
use Rattle.json_document.specs.Standing.{members_behind, put_all}
use Rattle.page_tree.specs.inside.Walking.{ArePartsOf}
use Rattle.page_tree.proofs.parts.Parts.of.Given as goal

abbrev pub invariant-loop-name : goal.invariant-loop-name
invariant-loop-name l =
    (done : Members) × ArePartsOf (object done) l.parts × (put_all (members_behind l.members) done ≡ put_all (members_behind l.initial.members) no_members)

abbrev pub decreases-loop-name : goal.decreases-loop-name
decreases-loop-name l = length l.members

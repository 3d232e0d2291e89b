use Rattle.std.proofs.Common.{◌≡◌, length}
use Rattle.serde_json.specs.Data.{no_members}
use Rattle.json_document.specs.Standing.{data_of, members_behind, put_all}
use Rattle.page_tree.specs.inside.Walking.{members_kept}
use Rattle.page_tree.proofs.parts.sorted_members.Given as goal

abbrev pub invariant-loop-name : goal.invariant-loop-name
invariant-loop-name l = put_all (members_behind l.members) (members_kept data_of l.found.entries) ≡ put_all (members_behind l.initial.members) no_members

abbrev pub decreases-loop-name : goal.decreases-loop-name
decreases-loop-name l = length l.members

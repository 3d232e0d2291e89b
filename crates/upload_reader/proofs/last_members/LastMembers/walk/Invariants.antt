use Rattle.std.proofs.Common.{◌≡◌, length}
use Rattle.serde_json.specs.Data.{Members, object, no_members}
use Rattle.json_document.specs.Standing.{members_behind, put_all}
use Rattle.upload_reader.specs.inside.Walked.{AreLastMembers}
use Rattle.upload_reader.proofs.last_members.LastMembers.walk.Given as goal

abbrev pub invariant-loop-name : goal.invariant-loop-name
invariant-loop-name l = (done : Members) × AreLastMembers (object done) l.last × (put_all (members_behind l.members) done ≡ put_all (members_behind l.initial.members) no_members)

abbrev pub decreases-loop-name : goal.decreases-loop-name
decreases-loop-name l = length l.members

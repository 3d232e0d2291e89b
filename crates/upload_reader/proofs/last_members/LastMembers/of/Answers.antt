use Rattle.std.proofs.Common.{sym, subst}
use Rattle.json_document.specs.Standing.{data_of}
use Rattle.upload_reader.specs.inside.Walked.{AreLastMembers}
use Rattle.upload_reader.proofs.Walked.{object_is, none_last}
use Rattle.upload_reader.proofs.last_members.LastMembers.of.Goals as goal

pub returns-in_default : goal.returns-in_default
returns-in_default c = none_last (data_of c.args.message.now) c.none.result c.in_default.ensures c.none.ensures

pub returns : goal.returns
returns c = subst (λ d. AreLastMembers d c.walk.result) (sym (object_is (data_of c.args.message.now) _ c.in-Some.ensures)) c.walk.ensures

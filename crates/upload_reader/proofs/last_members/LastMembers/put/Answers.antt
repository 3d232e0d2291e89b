use Rattle.json_document.specs.Standing.{data_of}
use Rattle.upload_reader.specs.inside.Walked.{named_members}
use Rattle.upload_reader.proofs.Walked.{none_named}
use Rattle.upload_reader.proofs.last_members.LastMembers.put.Goals as goal

pub returns-in_default : goal.returns-in_default
returns-in_default c =
    let o = c.in_default in
    none_named c.args.name.now (data_of c.args.place) (named_members c.args.self.now)
    (o.not-t, (o.not-visit, (o.not-at, (o.not-parent, (o.not-from, (o.not-path, (o.not-page, (o.not-target, (o.not-value, (o.not-by, (o.not-req, tt)))))))))))

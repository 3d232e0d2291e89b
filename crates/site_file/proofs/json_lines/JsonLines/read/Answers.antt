use Rattle.std.proofs.Common.{rules}
use Rattle.json_document.specs.Standing.{data_of}
use Rattle.site_file.proofs.ValueLaws.{value_read, value_refused}
use Rattle.site_file.proofs.json_lines.JsonLines.read.Goals as goal

pub returns-in-Ok : goal.returns-in-Ok
returns-in-Ok c = value_read c.args.line.now (data_of c.in-Ok.document) c.in-Ok.ensures.ok.0 c.in-Ok.ensures.ok.1

pub returns-in-Err-NotJson : goal.returns-in-Err-NotJson
returns-in-Err-NotJson c = value_refused c.args.line.now (c.in-Err-NotJson.ensures.not_json (search rules))

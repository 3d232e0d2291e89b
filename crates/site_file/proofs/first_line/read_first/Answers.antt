use Rattle.std.proofs.Common.{rules}
use Rattle.site_file.proofs.ValueLaws.{no_json}
use Rattle.site_file.proofs.first_line.read_first.Goals as goal

pub returns-in-Err-NotJson : goal.returns-in-Err-NotJson
returns-in-Err-NotJson c = no_json c.args.line.now (c.in-Err-NotJson.ensures.not_json (search rules))

use Rattle.std.proofs.Common.{rules}
use Rattle.serde_json.specs.View.{view}
use Rattle.site_file.proofs.ValueLaws.{value_read, value_refused}
use Rattle.site_file.proofs.first_line.first_value.Goals as goal

pub returns-in-Ok : goal.returns-in-Ok
returns-in-Ok c = value_read c.args.line.now (view c.in-Ok.value) c.in-Ok.ensures.ok.0 c.in-Ok.ensures.ok.1

pub returns-in_default : goal.returns-in_default
returns-in_default c = value_refused c.args.line.now (c.in-Err.ensures.err (search rules))

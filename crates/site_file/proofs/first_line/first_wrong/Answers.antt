use Rattle.std.proofs.Common.{sym, ◌∙◌}
use Rattle.std.proofs.lemmas.Result.{IfOk-weaker}
use Rattle.serde_json.specs.View.{view}
use Rattle.site_file.proofs.ValueLaws.{none_told, some_told}
use Rattle.site_file.proofs.first_line.first_wrong.Goals as goal

pub returns-in-None : goal.returns-in-None
returns-in-None c = none_told view c.args.line.now _ c.in_ok-read.ensures c.in-None.is

pub returns-in-Some : goal.returns-in-Some
returns-in-Some c = IfOk-weaker c.value_wrong.result _ _ (λ why is. is ∙ sym (some_told view c.args.line.now _ c.in_ok-read.ensures c.in-Some.value c.in-Some.is)) c.value_wrong.ensures

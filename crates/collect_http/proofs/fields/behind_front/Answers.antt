use Rattle.collect_http.proofs.Texts.{stripped}
use Rattle.collect_http.proofs.fields.behind_front.Goals as goal

pub returns : goal.returns
returns c = stripped c.args.front.now c.args.text.now c.strip_prefix.result c.strip_prefix.ensures.cases

use Rattle.std.proofs.Common.{rules}
use Rattle.review_requests.proofs.Words.{too_great}
use Rattle.review_requests.proofs.form.number_said.Goals as goal

pub returns-in_err-n : goal.returns-in_err-n
returns-in_err-n c = search (rules, too_great c.args.text.now c.parse.result c.parse.ensures.value.0)

use Rattle.std.proofs.Common.{rules}
use Rattle.review_server.proofs.CallLaws.{parse_number}
use Rattle.review_server.proofs.call.port_said.Goals as goal

pub returns-in_err-n : goal.returns-in_err-n
returns-in_err-n c = search (rules, parse_number c.args.word.now c.parse.result c.parse.ensures.value.0)

use Rattle.std.proofs.Common.{rules}
use Rattle.warp_server.proofs.CallLaws.{parse_number}
use Rattle.warp_server.proofs.program.call.number_of_word.Goals as goal

pub returns-in_err-n-clause-value : goal.returns-in_err-n-clause-value
returns-in_err-n-clause-value c = search (rules, parse_number c.args.word.now c.parse.result c.parse.ensures.value.0)

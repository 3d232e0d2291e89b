use Rattle.review_requests.proofs.Posted.{own_posting}
use Rattle.review_requests.proofs.verdict.judge.Goals as goal

pub returns-clause-own : goal.returns-clause-own
returns-clause-own c = own_posting c.args.request.now c.args.port c.args.token.now c.judge_request.result c.judge_request.ensures

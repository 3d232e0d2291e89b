use Rattle.std.proofs.Common.{◌∙◌}
use Rattle.review_requests.proofs.Joined.{joined_by_rest, not_joined}
use Rattle.review_requests.proofs.host.is_joined.Goals as goal

pub returns-in-Some : goal.returns-in-Some
returns-in-Some c = c.eq.ensures
    ∙ joined_by_rest c.args.text.now c.args.front.now c.args.rest.now c.in-Some.left.now c.in-Some.ensures.cases.0 c.in-Some.ensures.cases.1

pub returns-in-None : goal.returns-in-None
returns-in-None c = not_joined c.args.text.now c.args.front.now c.args.rest.now c.in-None.ensures.cases

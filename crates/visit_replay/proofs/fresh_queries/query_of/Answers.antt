use Rattle.std.proofs.Common.{sym, ◌∙◌, arith}
use Rattle.std.proofs.lemmas.Str.Pattern.{split_once_first}
use Rattle.visit_replay.proofs.QueriesBeside.{query_cut}
use Rattle.visit_replay.proofs.fresh_queries.query_of.Goals as goal

pub returns-then-is_whole : goal.returns-then-is_whole
returns-then-is_whole c =
    query_cut c.args.address.now c.split_once.result (sym c.is_whole.ensures ∙ c.if-is_whole.true)
    (split_once_first 63 c.args.address.now c.split_once.result c.split_once.ensures.cases (omega arith))

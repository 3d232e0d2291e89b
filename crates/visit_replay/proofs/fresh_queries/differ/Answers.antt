use Rattle.std.proofs.Common.{not, sym, ap, ◌∙◌}
use Rattle.std.proofs.lemmas.Result.{IfOk-weaker}
use Rattle.visit_replay.proofs.QueriesBeside.{by_queries}
use Rattle.visit_replay.proofs.fresh_queries.differ.Goals as goal

pub returns-then-eq : goal.returns-then-eq
returns-then-eq c =
    let was = c.in-Some-Some.was in
    let is = c.in-Some-Some.is' in
    IfOk-weaker c.differ_in_pairs.result _ _
    (λ apart told. told ∙ ap not (by_queries c.args.fresh.now c.args.before.now c.args.now.now was.0.now is.0.now was.1.now is.1.now c.in-Some-Some.ensures c.in-Some-Some.ensures' (sym c.eq.ensures ∙ c.if-eq.true)))
    c.differ_in_pairs.ensures

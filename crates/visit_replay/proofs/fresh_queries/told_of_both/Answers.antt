use Rattle.std.proofs.Common.{Some, sym, ◌∙◌, arith}
use Rattle.page_looks.specs.Sending.{kept_pairs}
use Rattle.visit_replay.proofs.QueriesBeside.{both_apart, both_same, less_left, passed_first}
use Rattle.visit_replay.proofs.fresh_queries.told_of_both.Goals as goal

pub returns-then-eq : goal.returns-then-eq
returns-then-eq c =
    let was = c.args.was.now in
    let is = c.args.is.now in (
      both_same c.args.fresh.now was is c.first_pair.result.0.now c.first_pair-2.result.0.now c.first_pair.result.1 c.first_pair-2.result.1 c.first_pair.ensures.pairs c.first_pair-2.ensures.pairs (sym c.eq.ensures ∙ c.if-eq.true),
      omega (arith, less_left was c.first_pair.result.1 c.first_pair.ensures.shorter, less_left is c.first_pair-2.result.1 c.first_pair-2.ensures.shorter),
    )

pub returns : goal.returns
returns c =
    both_apart c.args.fresh.now c.args.was.now c.args.is.now c.first_pair.result.0.now c.first_pair-2.result.0.now c.first_pair.result.1 c.first_pair-2.result.1 c.first_pair.ensures.pairs c.first_pair-2.ensures.pairs
    (sym c.eq.ensures ∙ c.if-eq.false) (sym c.in_ok-is_passed_over.ensures ∙ c.if-branch.false) (sym c.in_ok-is_passed_over-2.ensures ∙ c.if-branch-2.false)

pub returns-then-branch : goal.returns-then-branch
returns-then-branch c =
    let was = c.args.was.now in
    let is = c.args.is.now in
    c.left_behind.ensures c.args.fresh.now (record { was = Some c.args.was; is = Some c.args.is }) (
      passed_first c.args.fresh.now was c.first_pair.result.0.now c.first_pair.result.1 (kept_pairs c.args.fresh.now is) c.first_pair.ensures.pairs (sym c.in_ok-is_passed_over.ensures ∙ c.if-branch.true),
      omega (arith, less_left was c.first_pair.result.1 c.first_pair.ensures.shorter),
    )

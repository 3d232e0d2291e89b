use Rattle.std.proofs.Common.{refl, arith}
use Rattle.std.proofs.lemmas.Bool.{false≢true}
use Rattle.std.proofs.lemmas.List.{length-map}
use Rattle.conflict_desk.proofs.Dockets.{ascend_more, falls_there}
use Rattle.conflict_desk.specs.declared.docket.Case.{Case}
use Rattle.conflict_desk.proofs.docket.are_ascending.Goals as goal

pub loop-k-preserved : goal.loop-k-preserved
loop-k-preserved c = ascend_more c.args.cases.now c.loop-k.k _ _ c.loop-k.invariant c.loop-k.auto.k c.loop-k-test.true c.if-cases-k.false

pub returns-then-cases-k : goal.returns-then-cases-k
returns-then-cases-k c = ((λ is. absurd (false≢true is)), (λ up. absurd (falls_there c.args.cases.now c.loop-k.k _ _ up c.loop-k.auto.k c.loop-k-test.true c.if-cases-k.true)))

pub returns : goal.returns
returns c = ((λ is i within. c.loop-k.invariant i (omega (arith, within, length-map c.args.cases.now (λ (case : Case). case.visit), c.loop-k-test.false))), (λ up. refl))

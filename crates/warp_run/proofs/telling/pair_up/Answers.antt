use Rattle.std.proofs.Common.{sym, subst, rules, arith}
use Rattle.std.proofs.lemmas.Grind.{common_steps}
use Rattle.std.proofs.lemmas.List.Elements.{All-push}
use Rattle.warp_run.specs.inside.Telling.{AreTold, IsTold}
use Rattle.warp_run.proofs.telling.pair_up.Goals as goal

pub loop-visit-preserved : goal.loop-visit-preserved
loop-visit-preserved c = record {
  pairs = first_of (search rules, grind (arith, common_steps));
  told = λ page_of same. subst (AreTold page_of same) (sym c.in_ok-push.ensures.items) (All-push (IsTold page_of same) _ _ (c.loop-visit.invariant.told page_of same) tt);
}

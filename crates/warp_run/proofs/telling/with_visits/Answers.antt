use Rattle.std.proofs.Common.{Vec, Global, sym, subst, rules, arith}
use Rattle.std.proofs.lemmas.Grind.{common_steps}
use Rattle.std.proofs.lemmas.List.Elements.{All-push}
use Rattle.warp_run.specs.inside.Telling.{AreAllTold, AreTold}
use Rattle.warp_run.specs.declared.telling.ToldVisit.{ToldVisit}
use Rattle.warp_run.proofs.telling.with_visits.Goals as goal

pub loop-one-preserved : goal.loop-one-preserved
loop-one-preserved c = record {
  pairs = first_of (search rules, grind (arith, common_steps));
  told = λ page_of same. subst (AreAllTold page_of same) (sym c.in_ok-push.ensures.items)
      (All-push (λ (own : Vec ToldVisit Global). AreTold page_of same own.items) _ _ (c.loop-one.invariant.told page_of same) (c.in_ok-pair_up.ensures.told page_of same));
}

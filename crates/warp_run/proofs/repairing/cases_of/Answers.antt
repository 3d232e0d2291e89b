use Rattle.std.proofs.Common.{◌≡◌, ◌∷◌, ◌++◌, option_to_list, subst, ap, ◌∙◌, rules, arith}
use Rattle.std.proofs.lemmas.Grind.{common_steps}
use Rattle.std.proofs.lemmas.List.Elements.{All-head, All-tail}
use Rattle.std.specs.Vec.Iter.{into_iter_items}
use Rattle.warp_run.specs.inside.Telling.{AreTold, IsTold}
use Rattle.warp_run.proofs.repairing.cases_of.Goals as goal

pub case_of-requires-after_bounds : goal.case_of-requires-after_bounds
case_of-requires-after_bounds g c =
    let page_of = g.H.SiteLaw.page_of c.args.hooks.now in
    let rest = into_iter_items c.next.new.self in
    let split : into_iter_items c.loop-one.rest ≡ c.in-Some.one ∷ rest = c.next.ensures.items ∙ ap (λ r. option_to_list r ++ rest) c.in-Some.is in
    let here : IsTold page_of c.args.finding.now c.in-Some.one = All-head (IsTold page_of c.args.finding.now) c.in-Some.one rest (subst (AreTold page_of c.args.finding.now) split c.loop-one.invariant.told) in
    λ _ _. here

pub loop-one-preserved : goal.loop-one-preserved
loop-one-preserved g c =
    let page_of = g.H.SiteLaw.page_of c.args.hooks.now in
    let rest = into_iter_items c.next.new.self in
    let split : into_iter_items c.loop-one.rest ≡ c.in-Some.one ∷ rest = c.next.ensures.items ∙ ap (λ r. option_to_list r ++ rest) c.in-Some.is in
    record {
      cases = first_of (search rules, grind (arith, common_steps));
      told = All-tail (IsTold page_of c.args.finding.now) c.in-Some.one rest (subst (AreTold page_of c.args.finding.now) split c.loop-one.invariant.told);
    }

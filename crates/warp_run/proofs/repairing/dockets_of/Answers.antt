use Rattle.std.proofs.Common.{◌≡◌, List, [], ◌∷◌, ◌++◌, Vec, Global, map, option_to_list, refl, sym, ap, ap₂, subst, ◌∙◌, append-nil, rules, arith}
use Rattle.std.proofs.lemmas.Grind.{common_steps}
use Rattle.std.proofs.lemmas.List.Elements.{All-head, All-tail}
use Rattle.std.proofs.lemmas.List.{nil_from_length}
use Rattle.std.specs.List.{zip}
use Rattle.std.specs.Vec.Iter.{into_iter_items}
use Rattle.warp_run.specs.inside.Telling.{AreAllTold, AreTold, docket_told}
use Rattle.warp_run.specs.declared.telling.ToldVisit.{ToldVisit}
use Rattle.warp_run.proofs.repairing.dockets_of.Goals as goal
use Rattle.warp_run.proofs.repairing.dockets_of.Goals.{in-None, in-Some+in_default}

zip_none : {A B : Type 0} (xs : List A) → zip {X = B} xs [] ≡ []
zip_none [] = refl
zip_none (x ∷ xs) = refl

pub returns-clause-dockets : goal.returns-clause-dockets
returns-clause-dockets g c =
    let made = c.loop-client.dockets.items in
    let rest = into_iter_items c.loop-client.rest in
    let all = c.loop-client.invariant.dockets
    ∙ ap₂ (λ entries outs. map (docket_told (g.H.SiteLaw.page_of c.args.hooks.now) c.args.finding.now) (zip entries outs))
    (c.into_iter-client-iterator.ensures.into_iter_gives ∙ c.iter-client-items.ensures.rest) c.into_iter-rest.ensures.rest in
    elim c.match-next.branch [
      | in-None w ↦ sym (append-nil made) ∙ ap (λ entries. made ++ map (docket_told (g.H.SiteLaw.page_of c.args.hooks.now) c.args.finding.now) (zip entries rest)) (sym w.in-None.ensures.steps.0) ∙ all
      | in-Some+in_default w ↦
          let none : rest ≡ [] = nil_from_length rest (omega (arith, w.in_default.ensures.cases.0, c.loop-client.rest.rest.ok.0)) in
          sym (append-nil made)
          ∙ ap (λ cases. made ++ map (docket_told (g.H.SiteLaw.page_of c.args.hooks.now) c.args.finding.now) cases) (sym (zip_none c.loop-client.client-iterator) ∙ ap (zip c.loop-client.client-iterator) (sym none)) ∙ all
    ]

pub cases_of-requires-after_bounds : goal.cases_of-requires-after_bounds
cases_of-requires-after_bounds g c =
    let page_of = g.H.SiteLaw.page_of c.args.hooks.now in
    let rest = into_iter_items c.next-in-loop-client.new.self in
    let split : into_iter_items c.loop-client.rest ≡ c.in-Some-next.own ∷ rest = c.next-in-loop-client.ensures.items ∙ ap (λ r. option_to_list r ++ rest) c.in-Some-next.is in
    let all = subst (AreAllTold page_of c.args.finding.now) split c.loop-client.invariant.told in
    let here : AreTold page_of c.args.finding.now c.in-Some-next.own.items =
    All-head (λ (own : Vec ToldVisit Global). AreTold page_of c.args.finding.now own.items) c.in-Some-next.own rest all in
    λ _ _. here

pub loop-client-preserved : goal.loop-client-preserved
loop-client-preserved g c =
    let page_of = g.H.SiteLaw.page_of c.args.hooks.now in
    let rest = into_iter_items c.next-in-loop-client.new.self in
    let split : into_iter_items c.loop-client.rest ≡ c.in-Some-next.own ∷ rest = c.next-in-loop-client.ensures.items ∙ ap (λ r. option_to_list r ++ rest) c.in-Some-next.is in
    let all = subst (AreAllTold page_of c.args.finding.now) split c.loop-client.invariant.told in
    record {
      dockets = first_of (search rules, grind (arith, common_steps));
      told = All-tail (λ (own : Vec ToldVisit Global). AreTold page_of c.args.finding.now own.items) c.in-Some-next.own rest all;
    }

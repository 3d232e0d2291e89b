use Rattle.std.proofs.Common.{◌≡◌, ◌<◌, ◌+◌, suc, [], ◌∷◌, ◌++◌, map, refl, ap, ◌∙◌, arith}
use Rattle.page_tree.specs.Look.{child_count_at}
use Rattle.page_tree.specs.Number.{place_numbered}
use Rattle.visit_replay.specs.Aim.{is_hidden_named}
use Rattle.visit_replay.specs.inside.Differing.{numbers_named}
use Rattle.visit_replay.proofs.HiddenTwins.{named_more}
use Rattle.visit_replay.proofs.named_inputs.NamedInputs.under.Goals as goal

pub loop-i-preserved : goal.loop-i-preserved
loop-i-preserved c =
    let page = c.args.page.now in
    let at = place_numbered c.args.parent page in
    let next : c.loop-i._i + 1 ≡ suc c.loop-i._i = omega arith in
    let less : c.loop-i._i < child_count_at at page = rw c.children_of-i-end.ensures at c.loop-i-test.true in
    let here : place_numbered c.loop-i.child page ≡ at ++ c.loop-i._i ∷ [] = c.loop-i.invariant.here less in
    record {
      here = λ more. rw next (c.nodes_under-child-in-loop-i.ensures.next at c.loop-i._i here (rw next at more));
      found = λ name.
          ap (map (λ n. place_numbered n page)) (c.in_ok-note.ensures name)
          ∙ named_more page (is_hidden_named name page) at c.loop-i._i (numbers_named c.loop-i.all name) c.loop-i.child _ here refl (c.loop-i.invariant.found name);
    }

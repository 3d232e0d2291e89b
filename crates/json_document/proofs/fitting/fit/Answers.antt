use Rattle.std.proofs.Common.{◌≡◌, ◌∙◌, ◌+◌, ◌<◌, ℕ, List, map, drop, get_or, false, Option, Some, None, sym, ap, length}
use Rattle.std.proofs.lemmas.List.{drop_more, drop_all}
use Rattle.std.specs.Option.{option_map_or}
use Rattle.json.specs.Tape.{node_token}
use Rattle.json.specs.declared.tape.Node.{Node}
use Rattle.json.specs.declared.tape.Node.TheVariants.{Object}
use Rattle.json_document.specs.Fitting.{depth_behind, fit}
use Rattle.json_document.proofs.fitting.fit.Goals as goal

-- what fits from a node on, by what it leaves
fit_here : (nodes : List Node) (i deep : ℕ) (o : Option ℕ) → i < length nodes → depth_behind deep (node_token (get_or nodes i (Object 0))) ≡ o
    → fit deep (map node_token (drop i nodes)) ≡ option_map_or (λ next. fit next (map node_token (drop (i + 1) nodes))) o false
unfolding fit
fit_here nodes i deep o less is =
    ap (λ l. fit deep (map node_token l)) (drop_more nodes i (Object 0) less) ∙ ap (λ x. option_map_or (λ next. fit next (map node_token (drop (i + 1) nodes))) x false) is

pub returns-in-None : goal.returns-in-None
returns-in-None c =
    sym (c.loop-node.invariant ∙ fit_here c.args.nodes.now c.loop-node.node-index c.loop-node.deep None c.loop-node-test.true (sym c.depth_behind.ensures ∙ c.in-None.is))

pub loop-node-preserved : goal.loop-node-preserved
loop-node-preserved c =
    c.loop-node.invariant ∙ fit_here c.args.nodes.now c.loop-node.node-index c.loop-node.deep (Some c.in-Some.next) c.loop-node-test.true (sym c.depth_behind.ensures ∙ c.in-Some.is)

pub returns : goal.returns
unfolding fit
returns c = sym (c.loop-node.invariant ∙ ap (λ l. fit c.loop-node.deep (map node_token l)) (drop_all c.loop-node.node-index c.args.nodes.now c.loop-node-test.false))

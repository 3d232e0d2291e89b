use Rattle.std.proofs.Common.{◌≡◌, map, drop}
use Rattle.json.specs.Tape.{node_token}
use Rattle.json_document.specs.Fitting.{fit}
use Rattle.json_document.proofs.fitting.fit.Given as goal

-- what is left of the nodes fits as all do
abbrev pub invariant-loop-node : goal.invariant-loop-node
invariant-loop-node l = fit 0 (map node_token l.nodes) ≡ fit l.deep (map node_token (drop l.node-index l.nodes))

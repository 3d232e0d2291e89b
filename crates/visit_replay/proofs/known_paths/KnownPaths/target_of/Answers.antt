use Rattle.std.proofs.lemmas.Result.{IfOk-weaker}
use Rattle.visit_replay.proofs.Asking.{leads_to}
use Rattle.visit_replay.proofs.known_paths.KnownPaths.target_of.Goals as goal

pub returns-clause-target : goal.returns-clause-target
returns-clause-target c =
    IfOk-weaker c.only.result _ _ (λ node selects. leads_to c.args.page.now c.args.event.now node (rw c.path_of.ensures at selects)) c.only.ensures.node

use Rattle.std.proofs.Common.{[]}
use Rattle.std.proofs.lemmas.Bool.{false≢true}
use Rattle.std.proofs.lemmas.Result.{IfOk-weaker}
use Rattle.visit_replay.proofs.told.ToldRequest.whole.Goals as goal

pub returns : goal.returns
returns c = IfOk-weaker c.written.result _ _ (λ request is. is [] (λ on. absurd (false≢true on))) c.written.ensures

use Rattle.visit_replay.proofs.AskedAlike.{all_ask_alike}
use Rattle.visit_replay.proofs.laws.done_asks_alike.Goals as goal

pub returns : goal.returns
returns c = all_ask_alike

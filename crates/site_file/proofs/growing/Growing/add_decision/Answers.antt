use Rattle.std.proofs.Common.{refl}
use Rattle.site_file.proofs.GrownLaws.{decision_added}
use Rattle.site_file.proofs.growing.Growing.add_decision.Goals as goal

pub returns : goal.returns
returns c = λ site adds stands. decision_added c.args.self.now site adds stands _ c.args.decision c.in_ok-push.ensures.items refl refl refl refl refl refl

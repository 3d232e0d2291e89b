use Rattle.std.proofs.lemmas.Result.{IfOk-weaker}
use Rattle.shared_stock.proofs.MadeLaws.{zip_made}
use Rattle.shared_stock.proofs.drawing.map_drawn.Goals as goal

pub returns : goal.returns
returns g c =
    IfOk-weaker c.map_listed.result _ _ (λ made are. zip_made (λ item one. g.F.Fn.post c.args.work.now (item, tt) one) c.args.items.items made.items are.1 are.0) c.map_listed.ensures

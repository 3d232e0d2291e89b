use Rattle.std.proofs.lemmas.Result.{IfOk-weaker}
use Rattle.shared_stock.proofs.MadeLaws.{all_shares, full_slot}
use Rattle.shared_stock.proofs.slots.in_order.Goals as goal

pub in_picked_order-requires : goal.in_picked_order-requires
in_picked_order-requires g c = all_shares c.args.shares.items

pub returns-clause-each : goal.returns-clause-each
returns-clause-each g c =
    IfOk-weaker c.in_picked_order.result _ _ (λ made placed k one at. placed.0 k one (full_slot made.items k one at)) c.in_picked_order.ensures

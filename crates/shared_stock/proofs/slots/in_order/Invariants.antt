use Rattle.shared_stock.specs.Slots.{WasMade}
use Rattle.shared_stock.proofs.slots.in_order.Given as goal

abbrev pub ghosts-in_picked_order : goal.ghosts-in_picked_order
ghosts-in_picked_order g a = record { makes = WasMade a.shares.items }

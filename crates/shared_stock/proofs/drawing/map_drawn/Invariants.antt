use Rattle.shared_stock.proofs.MadeLaws.{IsMadeOf}
use Rattle.shared_stock.proofs.drawing.map_drawn.Given as goal

abbrev pub ghosts-map_listed-L-StockList : goal.ghosts-map_listed-L-StockList
ghosts-map_listed-L-StockList g a = record { list = a.items.items }

abbrev pub ghosts-map_listed-L-MadeOf : goal.ghosts-map_listed-L-MadeOf
ghosts-map_listed-L-MadeOf g a = record { makes = IsMadeOf a.items.items (λ item one. g.F.Fn.post a.work.now (item, tt) one) }

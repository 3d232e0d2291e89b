use Rattle.std.proofs.Common.{sym, arith}
use Rattle.std.proofs.lemmas.List.{take_all}
use Rattle.visit_view.proofs.along.first_of.Goals as goal

pub returns-then-places-le-MOST_NAMED : goal.returns-then-places-le-MOST_NAMED
returns-then-places-le-MOST_NAMED c = sym (take_all 100 c.args.places.now (omega arith))

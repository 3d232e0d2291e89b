use Rattle.site_hooks.proofs.SetLaws.{if_ok, ones_have}
use Rattle.site_hooks.proofs.number_set.all_numbers.Goals as goal

pub returns-clause-all : goal.returns-clause-all
returns-clause-all c = if_ok c.vec.result (λ set same. ones_have set.items c.args.words (same (λ y is. is))) c.vec.ensures.items_if_clones_equal

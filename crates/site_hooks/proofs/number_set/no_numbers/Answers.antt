use Rattle.site_hooks.proofs.SetLaws.{if_ok, zeros_have}
use Rattle.site_hooks.proofs.number_set.no_numbers.Goals as goal

pub returns-clause-none : goal.returns-clause-none
returns-clause-none c = if_ok c.vec.result (λ set same. zeros_have set.items c.args.words (same (λ y is. is))) c.vec.ensures.items_if_clones_equal

use Rattle.std.proofs.Common.{◌++◌, ap, ◌∙◌}
use Rattle.std.proofs.lemmas.Option.{slice_get-get_or}
use Rattle.std.specs.Option.{option_to_list}
use Rattle.round_robin.proofs.Turns.{taken_set}
use Rattle.round_robin.proofs.dealt.take.Goals as goal

pub returns-clause-each : goal.returns-clause-each
returns-clause-each g c =
    taken_set c.args.hands.now c.args.at _ c.pop.new.self c.unwrap.result c.requires.within
    (slice_get-get_or c.args.hands.now c.args.at c.index-hands-at.result c.requires.within)
    (c.pop.ensures.items ∙ ap (λ last. c.pop.new.self.items ++ option_to_list last) c.unwrap.ensures)

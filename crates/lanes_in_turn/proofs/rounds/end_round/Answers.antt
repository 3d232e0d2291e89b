use Rattle.std.proofs.Common.{ap, bytes_eq, ◌∙◌}
use Rattle.indexmap.specs.IndexMap.{insert_all}
use Rattle.lanes_in_turn.proofs.rounds.end_round.Goals as goal

pub returns-clause-clients : goal.returns-clause-clients
returns-clause-clients g c = c.put_back.ensures ∙ ap (λ entries. insert_all bytes_eq entries c.args.lanes.items) c.rest_all.ensures.rested

use Rattle.std.proofs.lemmas.Option.{slice_get-get_or}
use Rattle.round_robin.proofs.Turns.{given_set}
use Rattle.round_robin.proofs.dealt.give.Goals as goal

pub returns-clause-each : goal.returns-clause-each
returns-clause-each g c =
    given_set c.args.dealt.now c.args.at _ c.push.new.self c.args.item c.requires
    (slice_get-get_or c.args.dealt.now c.args.at c.index-dealt-at.result c.requires) c.in_ok-push.ensures.items

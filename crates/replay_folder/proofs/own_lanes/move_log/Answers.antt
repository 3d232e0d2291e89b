use Rattle.std.proofs.Common.{bytes_eq, sym, ap, ◌∙◌}
use Rattle.std.proofs.lemmas.Map.Made.{is_some-lookup}
use Rattle.indexmap.specs.IndexMap.{insert_entry}
use Rattle.replay_folder.proofs.OwnLanesLaws.{same_behind}
use Rattle.replay_folder.proofs.own_lanes.move_log.Goals as goal

pub returns-clause-same : goal.returns-clause-same
returns-clause-same g c =
    let old = c.args.clients.now.entries in
    same_behind old c.insert.new.self.entries c.args.client.now c.lane_of_log.result
    (sym (is_some-lookup (bytes_eq c.args.client.now) old) ∙ sym c.contains_key.ensures ∙ c.if-not-contains_key.false)
    (c.in_ok-lane.ensures.entries ∙ ap (λ key. insert_entry bytes_eq old key c.lane_of_log.result) c.in_ok-copy-2.ensures)

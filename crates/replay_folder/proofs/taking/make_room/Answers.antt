use Rattle.std.proofs.Common.{bytes_eq, sym, ap, ◌∙◌}
use Rattle.std.specs.List.{list_any}
use Rattle.replay_folder.proofs.taking.make_room.Goals as goal

pub returns-clause-apart : goal.returns-clause-apart
returns-clause-apart g c =
    ap (λ uploads. list_any (λ upload. bytes_eq c.args.client.now upload.client) uploads) (sym c.as_slice.ensures.value)
    ∙ sym c.has_client.ensures ∙ c.if-has_client.false

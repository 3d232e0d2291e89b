use Rattle.std.proofs.Common.{None, ap, sym, ◌∙◌, bytes_eq, unwrap_or, if◌then◌else◌}
use Rattle.indexmap.specs.IndexMap.{get}
use Rattle.replay_folder.specs.FolderReport.{told_of}
use Rattle.replay_folder.specs.inside.{told_in}
use Rattle.replay_folder.proofs.SummaryLaws.{put_told}
use Rattle.replay_folder.proofs.summaries.put_end.Goals as goal

pub returns-in_ok-insert-in-Taken : goal.returns-in_ok-insert-in-Taken
returns-in_ok-insert-in-Taken c = λ client.
    ap (λ found. unwrap_or found (0, None)) (c.in_ok-insert-in-Taken.ensures.updates.0 client)
    ∙ put_told (bytes_eq c.in_ok-copy-in-Taken.field-0 client) (c.in-Taken.taken, c.in-Taken.end) (0, None) (get bytes_eq c.args.last.now client)
    ∙ ap (λ key. if bytes_eq key client then (c.in-Taken.taken, c.in-Taken.end) else unwrap_or (get bytes_eq c.args.last.now client) (0, None)) c.in_ok-copy-in-Taken.ensures
    ∙ sym (ap (λ it. told_of client (told_in c.args.last.now client) it) c.in-Taken.is)

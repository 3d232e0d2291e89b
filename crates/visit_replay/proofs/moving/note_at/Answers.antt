use Rattle.std.proofs.Common.{Some, None}
use Rattle.visit_replay.specs.Aim.{by_path}
use Rattle.visit_replay.specs.inside.Differing.{IsTargetOf}
use Rattle.visit_replay.proofs.Overlay.{kept_else}
use Rattle.visit_replay.proofs.moving.note_at.Goals as goal

pub returns-in-Some : goal.returns-in-Some
returns-in-Some c =
    let leads : IsTargetOf c.args.page.now c.args.event.now (Some c.in-Some.target) = rw c.in-Some.is at c.requires in
    c.note.ensures (by_path c.args.page.now) leads

pub returns-in-None : goal.returns-in-None
returns-in-None c =
    let leads : IsTargetOf c.args.page.now c.args.event.now None = rw c.in-None.is at c.requires in
    kept_else (by_path c.args.page.now) c.args.fields.now c.args.page.now c.args.event.now leads

use Rattle.std.proofs.Common.{length, sym, ap, subst, ◌∙◌}
use Rattle.byte_streams.specs.Reading.{WasRead}
use Rattle.site_line.specs.Reading.{site_quota}
use Rattle.replay_folder.specs.Ends.{folder_status}
use Rattle.replay_folder.specs.Names.{NamesAll}
use Rattle.replay_folder.specs.Replays.{folder_repaired}
use Rattle.replay_folder.specs.inside.{HasTakenFiles}
use Rattle.replay_folder.proofs.TakenFilesLaws.{files_length}
use Rattle.replay_folder.proofs.ReplayedLaws.{replayed_is}
use Rattle.replay_folder.proofs.halves.replay_uploads.Goals as goal

pub invariant_of-told : goal.invariant_of-told
invariant_of-told g c = record {
  each = ap length (c.from.ensures ∙ sym c.as_slice.ensures.value) ∙ files_length _ _ _ _ _ _ c.in_ok-taken.ensures.has ∙ ap length (sym c.from-2.ensures);
}

pub returns : goal.returns
returns g c =
    let opened = g.O.OpensUploads.opened c.args.opener.now in
    let listed = g.O.OpensUploads.listed c.args.opener.now in
    let was_read = WasRead g.F.Source.answers g.F.Read.remaining in
    let taken = c.in_ok-taken.taken in
    let behind = c.in_ok-taken.ensures in
    let site = c.args.site.now in
    let has =
    subst (λ ends. HasTakenFiles was_read opened c.quota.result c.from.result ends behind.gathered) (sym c.from-2.ensures)
    (subst (λ named. HasTakenFiles was_read opened c.quota.result named taken.ends.items behind.gathered) (c.as_slice.ensures.value ∙ sym c.from.ensures) behind.has) in
    replayed_is opened listed was_read site c.args.uploads _ behind.gathered c.quota.result taken.status
    (subst (NamesAll listed c.args.uploads) (sym c.from.ensures) c.in_ok-named.ensures) (c.quota.ensures ∙ ap site_quota c.site.ensures) behind.keeps behind.status has
    (c.folder_status-status.ensures ∙ ap (folder_status taken.status) (c.as_slice-3.ensures.value ∙ sym c.from-2.ensures))
    (c.in_ok-repaired.ensures.repaired ∙ ap (λ ends. folder_repaired site ends taken.gathered) (c.as_slice-2.ensures.value ∙ sym c.from-2.ensures))
    c.in_ok-repaired.ensures.leave

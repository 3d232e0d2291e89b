-- What replaying uploads comes to, and how it is reported.
use Rattle.std.proofs.Common.{◌≡◌, ℕ, List, map, Option, Result, refl, sym, ap, subst, ◌∙◌}
use Rattle.std.specs.declared.io.Error.{Error}
use Rattle.byte_streams.specs.Answers.{Answer}
use Rattle.byte_streams.specs.Writing.{CallWrites}
use Rattle.own_pages.specs.OwnPages.{own_page_at}
use Rattle.conflict_desk.specs.Laws.{AllLeaveInOrder}
use Rattle.site_line.specs.Reading.{site_quota}
use Rattle.site_file.specs.Kept.{file_site, file_own}
use Rattle.site_file.specs.declared.file.SiteFile.{SiteFile}
use Rattle.lanes_in_turn.specs.declared.gathered.Gathered.{Gathered}
use Rattle.warp_run.specs.Conclusion.{repaired_site}
use Rattle.warp_run.specs.Report.{report_with, WritesReport}
use Rattle.warp_run.specs.Shortage.{status_of}
use Rattle.warp_run.specs.declared.reporting.fault.ReportFault.{ReportFault}
use Rattle.warp_run.specs.declared.status.Status.{Status}
use Rattle.replay_folder.specs.Ends.{folder_status}
use Rattle.replay_folder.specs.FolderReport.{upload_lines}
use Rattle.replay_folder.specs.Names.{NamesAll}
use Rattle.replay_folder.specs.Replays.{folder_repaired}
use Rattle.replay_folder.specs.Replayed.{IsReplayedOf}
use Rattle.replay_folder.specs.Taking.{HeadlineOfFolder}
use Rattle.replay_folder.specs.inside.{HasTakenFiles, KeepsLogs, Reports}
use Rattle.replay_folder.specs.declared.replayed.Replayed.{Replayed}
use Rattle.replay_folder.proofs.FolderLaws.{folder_headline, kept_repaired}
use Rattle.replay_folder.proofs.OwnRoundLaws.{map_rested}

module _ {F : Type 0} (opened : List ℕ → Result F Error → Type 0) (listed : List ℕ → Result (Option (List (List ℕ))) Error → Type 0) (was_read : F → F → List Answer → Type 0)
    (site : SiteFile) (words : List (List ℕ)) where
  pub replayed_is : (replayed : Replayed F) (gathered : Gathered F) (quota : ℕ) (taking : Status) → NamesAll listed words replayed.told.named → quota ≡ site_quota (file_site site)
      → KeepsLogs replayed.gathered gathered → taking ≡ status_of gathered → HasTakenFiles was_read opened quota replayed.told.named replayed.told.ends gathered
      → replayed.status ≡ folder_status taking replayed.told.ends → replayed.repaired ≡ folder_repaired site replayed.told.ends replayed.gathered
      → AllLeaveInOrder replayed.repaired.desk → IsReplayedOf opened listed was_read site words replayed
  replayed_is replayed gathered quota taking names same keeps short has status made leave =
      let is : replayed.repaired ≡ folder_repaired site replayed.told.ends gathered = made ∙ kept_repaired site replayed.told.ends replayed.gathered gathered keeps in
      let had : HasTakenFiles was_read opened (site_quota (file_site site)) replayed.told.named replayed.told.ends gathered =
      subst (λ q. HasTakenFiles was_read opened q replayed.told.named replayed.told.ends gathered) same has in
      record {
        named_are = names;
        rounds = had.rounds;
        gathered = gathered;
        takes = had.files;
        logs = ap (map (λ entry. (entry.0, entry.1.log))) keeps.clients ∙ map_rested (λ entry. (entry.0, entry.1.log)) (λ entry. refl) gathered.clients.entries;
        repaired_is = is;
        headline = subst (HeadlineOfFolder was_read (site_quota (file_site site)) (repaired_site (file_site site)) (own_page_at (file_own site)) had.rounds gathered) (sym is)
            (folder_headline was_read (site_quota (file_site site)) site replayed.told.ends had.rounds gathered had.takes (subst (λ repaired. AllLeaveInOrder repaired.desk) is leave));
        status_is = status ∙ ap (λ taking. folder_status taking replayed.told.ends) short;
      }

  pub reports_replayed : (call : CallWrites) (replayed : Replayed F) (report : Result (Unit {0}) ReportFault) → IsReplayedOf opened listed was_read site words replayed
      → WritesReport call (report_with (upload_lines replayed.told.named replayed.told.ends) replayed.repaired) report → Reports opened listed was_read site words call (replayed.status, report)
  reports_replayed call replayed report is written = (
    report_with (upload_lines replayed.told.named replayed.told.ends) replayed.repaired,
    record {
      named = replayed.told.named;
      named_are = is.named_are;
      ends = replayed.told.ends;
      rounds = is.rounds;
      gathered = is.gathered;
      takes = is.takes;
      headline = subst (HeadlineOfFolder was_read (site_quota (file_site site)) (repaired_site (file_site site)) (own_page_at (file_own site)) is.rounds is.gathered) is.repaired_is is.headline;
      status_is = is.status_is;
      text_is = ap (report_with (upload_lines replayed.told.named replayed.told.ends)) is.repaired_is;
    },
    written,
  )

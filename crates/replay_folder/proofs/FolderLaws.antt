-- What is promised of a folder, and how replaying it ends.
use Rattle.std.proofs.Common.{◌≡◌, ℕ, List, [], ◌∷◌, map, bytes_eq, Bool, true, false, if◌then◌else◌, Option, Result, Ok, Err, ◌⊎◌, inl, inr, refl, sym, ap₂, subst, ◌∙◌}
use Rattle.std.specs.List.{AllByRecursion, list_any}
use Rattle.std.specs.Option.{IsSome}
use Rattle.std.specs.declared.io.Error.{Error}
use Rattle.indexmap.specs.IndexMap.{get, values}
use Rattle.byte_streams.specs.Answers.{Answer}
use Rattle.byte_streams.specs.Writing.{CallWrites, Takes}
use Rattle.own_pages.specs.OwnPages.{own_page_at}
use Rattle.conflict_desk.specs.Desk.{new_books}
use Rattle.conflict_desk.specs.Laws.{AllLeaveInOrder}
use Rattle.conflict_desk.specs.declared.docket.Docket.{Docket}
use Rattle.site_line.specs.Reading.{site_decisions}
use Rattle.site_file.specs.Kept.{file_site, file_own}
use Rattle.site_file.specs.declared.file.SiteFile.{SiteFile}
use Rattle.lanes_in_turn.specs.declared.gathered.Gathered.{Gathered}
use Rattle.lanes_in_turn.specs.declared.gathered.Stop.{Stop}
use Rattle.warp_run.specs.Conclusion.{repaired_site}
use Rattle.warp_run.specs.Repair.{docket_with_own, new_repaired}
use Rattle.warp_run.specs.Settle.{after_decisions}
use Rattle.warp_run.specs.Shortage.{status_of}
use Rattle.warp_run.specs.Status.{written_status}
use Rattle.warp_run.specs.declared.repaired.ClientSummary.{ClientSummary}
use Rattle.warp_run.specs.declared.repaired.Repaired.{Repaired}
use Rattle.warp_run.specs.declared.reporting.fault.ReportFault.{ReportFault}
use Rattle.warp_run.specs.declared.reporting.fault.ReportFault.TheVariants as report_fault
use Rattle.warp_run.specs.declared.status.Status.{Status}
use Rattle.warp_run.specs.declared.status.Status.TheVariants.{Done, BadHello, OutOfMemory}
use Rattle.warp_server.specs.Rounds.{GathersRounds}
use Rattle.warp_server.proofs.HeadlineLaws.{calls_leave, opened_as}
use Rattle.warp_server.proofs.RoundSteps.{new_sessions}
use Rattle.warp_server.proofs.RoundsLaws.{all_of_mapped, rounds_have, uploads_known}
use Rattle.warp_server.proofs.ServeLaws.{status_cases}
use Rattle.replay_folder.specs.Ends.{TakenUpload, is_refused, folder_status}
use Rattle.replay_folder.specs.FolderReport.{last_summary}
use Rattle.replay_folder.specs.Replays.{folder_repaired, HasReplayed, ReplaysOn}
use Rattle.replay_folder.specs.Taking.{uploads_of_round, TakesRounds, HeadlineOfFolder}
use Rattle.replay_folder.specs.inside.{KeepsLogs, Reports}
use Rattle.replay_folder.specs.declared.ends.UploadEnd.{UploadEnd}
use Rattle.replay_folder.proofs.OwnRoundLaws.{map_rested}

-- ---- the rounds

module _ {R : Type 0} (was_read : R → R → List Answer → Type 0) (quota : ℕ) where
  round_gathers : (rounds : List (List (TakenUpload R))) (gathered : Gathered R) → TakesRounds was_read quota rounds gathered → GathersRounds quota (map uploads_of_round rounds) gathered
  round_gathers [] gathered none = none
  round_gathers (round ∷ before) gathered (earlier, rest, takes) = (earlier, round_gathers before earlier rest, takes.read.0)

  begin_new : (rounds : List (List (TakenUpload R))) (gathered : Gathered R) → TakesRounds was_read quota rounds gathered
      → AllByRecursion (AllByRecursion (λ upload. upload.lane.earlier ≡ [])) (map uploads_of_round rounds)
  begin_new [] gathered none = tt
  begin_new (round ∷ before) gathered (earlier, rest, takes) = (new_sessions (uploads_of_round round) takes.greeted, begin_new before earlier rest)

  are_known : (gathered : Gathered R) (rounds : List (List (TakenUpload R)))
      → AllByRecursion (AllByRecursion (λ upload. IsSome (get bytes_eq gathered.clients upload.client))) (map uploads_of_round rounds)
      → AllByRecursion (AllByRecursion (λ one. IsSome (get bytes_eq gathered.clients one.upload.client))) rounds
  are_known gathered [] known = tt
  are_known gathered (round ∷ before) known =
      (all_of_mapped (λ one. one.upload) (λ upload. IsSome (get bytes_eq gathered.clients upload.client)) round known.0, are_known gathered before known.1)

  pub folder_headline : (site : SiteFile) (ends : List UploadEnd) (rounds : List (List (TakenUpload R))) (gathered : Gathered R) → TakesRounds was_read quota rounds gathered
      → AllLeaveInOrder (folder_repaired site ends gathered).desk
      → HeadlineOfFolder was_read quota (repaired_site (file_site site)) (own_page_at (file_own site)) rounds gathered (folder_repaired site ends gathered)
  folder_headline site ends rounds gathered takes leave =
      let gathers = round_gathers rounds gathered takes in
      let dockets = map (docket_with_own (repaired_site (file_site site)) (own_page_at (file_own site))) gathered.clients.entries in record {
        takes = takes;
        clients = are_known gathered rounds (uploads_known quota (map uploads_of_round rounds) gathered gathers);
        has = rounds_have quota (map uploads_of_round rounds) gathered (begin_new rounds gathered takes) gathers;
        replayed = calls_leave (new_books dockets) (site_decisions (file_site site)) ∙ opened_as dockets;
        leave = leave;
      }

-- ---- the logs are kept

pub kept_repaired : {R : Type 0} (site : SiteFile) (ends : List UploadEnd) (kept gathered : Gathered R) → KeepsLogs kept gathered → folder_repaired site ends kept ≡ folder_repaired site ends gathered
kept_repaired site ends kept gathered keeps =
    let docket = docket_with_own (repaired_site (file_site site)) (own_page_at (file_own site)) in
    let made : Stop → List ClientSummary → List Docket → Repaired = λ stop clients dockets. after_decisions (site_decisions (file_site site)) (new_repaired stop clients dockets) in
    ap₂ (λ stop entries. made stop (map (last_summary ends) entries) (map docket entries)) keeps.stop keeps.clients
    ∙ ap₂ (made gathered.stop) (map_rested (last_summary ends) (λ entry. refl) gathered.clients.entries) (map_rested docket (λ entry. refl) gathered.clients.entries)

-- ---- how it ends

by_refusals : (refused : Bool) → ((if refused then BadHello else Done) ≡ Done) ⊎ ((if refused then BadHello else Done) ≡ BadHello)
by_refusals true = inr refl
by_refusals false = inl refl

module _ (ends : List UploadEnd) where
  abbrev EndsSo : Status → Type 0
  EndsSo status = (status ≡ Done) ⊎ (status ≡ BadHello) ⊎ (status ≡ OutOfMemory)

  folder_ends : (taking : Status) → (taking ≡ Done) ⊎ (taking ≡ OutOfMemory) → EndsSo (folder_status taking ends)
  folder_ends taking (inl done) = subst (λ s. EndsSo (folder_status s ends)) (sym done) (elim (by_refusals (list_any is_refused ends)) [
    | inl whole ↦ inl whole
    | inr refused ↦ inr (inl refused)
  ])
  folder_ends taking (inr memory) = subst (λ s. EndsSo (folder_status s ends)) (sym memory) (inr (inr refl))

module _ {F : Type 0} (opened : List ℕ → Result F Error → Type 0) (listed : List ℕ → Result (Option (List (List ℕ))) Error → Type 0) (was_read : F → F → List Answer → Type 0)
    (site : SiteFile) (words : List (List ℕ)) where
  module _ (call : CallWrites) where
    written : (status : Status) (text : List ℕ) → HasReplayed opened listed was_read site words status text → Takes call text 0
        → (status ≡ Done) ⊎ (status ≡ BadHello) ⊎ (status ≡ OutOfMemory) → ReplaysOn opened listed was_read site words call status
    written status text has takes (inl is) =
        subst (ReplaysOn opened listed was_read site words call) (sym is) (text, subst (λ s. HasReplayed opened listed was_read site words s text) is has, takes)
    written status text has takes (inr (inl is)) =
        subst (ReplaysOn opened listed was_read site words call) (sym is) (text, subst (λ s. HasReplayed opened listed was_read site words s text) is has, takes)
    written status text has takes (inr (inr is)) =
        subst (ReplaysOn opened listed was_read site words call) (sym is) (inr (text, subst (λ s. HasReplayed opened listed was_read site words s text) is has, takes))

    pub replays_on : (status : Status) (report : Result (Unit {0}) ReportFault) → Reports opened listed was_read site words call (status, report)
        → ReplaysOn opened listed was_read site words call (written_status status report)
    replays_on status (Ok done) (text, has, takes) =
        written status text has takes
        (subst (λ s. (s ≡ Done) ⊎ (s ≡ BadHello) ⊎ (s ≡ OutOfMemory)) (sym has.status_is) (folder_ends has.ends (status_of has.gathered) (status_cases has.gathered.stop (values has.gathered.clients))))
    replays_on status (Err report_fault.WriteFailed) (text, has, takes) = (status, text, has, takes)
    replays_on status (Err report_fault.NoMemory) (text, has, nothing) = inl nothing

-- What replaying uploads comes to, by what their files gave: this project's own rule.
use Rattle.std.specs.Prelude.{◌≡◌, ℕ, List, map, Option, Result}
use Rattle.std.specs.declared.io.Error.{Error}
use Rattle.byte_streams.specs.Answers.{Answer}
use Rattle.own_pages.specs.OwnPages.{own_page_at}
use Rattle.client_log.specs.Client.{OfClient}
use Rattle.site_line.specs.Reading.{site_quota}
use Rattle.site_file.specs.Kept.{file_site, file_own}
use Rattle.site_file.specs.declared.file.SiteFile.{SiteFile}
use Rattle.lanes_in_turn.specs.declared.gathered.Gathered.{Gathered}
use Rattle.warp_run.specs.Conclusion.{repaired_site}
use Rattle.warp_run.specs.Shortage.{status_of}
use Rattle.replay_folder.specs.Names.{NamesAll}
use Rattle.replay_folder.specs.Ends.{TakenUpload, folder_status}
use Rattle.replay_folder.specs.Taking.{TakesFiles, HeadlineOfFolder}
use Rattle.replay_folder.specs.Replays.{folder_repaired}
use Rattle.replay_folder.specs.declared.replayed.Replayed.{Replayed}

-- each client's log
abbrev pub logs_of : {R : Type 0} → Gathered R → List (List ℕ × OfClient)
logs_of gathered = map (λ entry. (entry.0, entry.1.log)) gathered.clients.entries

module _ {F : Type 0} (opened : List ℕ → Result F Error → Type 0)
    (listed : List ℕ → Result (Option (List (List ℕ))) Error → Type 0) (was_read : F → F → List Answer → Type 0)
    (site : SiteFile) (words : List (List ℕ)) where
  -- All uploads that the words name were taken; what they gave was replayed on that site, and decided. Of each client
  -- the log is there.
  pub record IsReplayedOf (replayed : Replayed F) : Type 0 where
    pub named_are : NamesAll listed words replayed.told.named
    pub rounds : List (List (TakenUpload F))
    pub gathered : Gathered F
    pub takes : TakesFiles opened was_read replayed.told.named replayed.told.ends rounds gathered
    pub logs : logs_of replayed.gathered ≡ logs_of gathered
    pub repaired_is : replayed.repaired ≡ folder_repaired site replayed.told.ends gathered
    pub headline : HeadlineOfFolder was_read (site_quota (file_site site)) (repaired_site (file_site site))
        (own_page_at (file_own site)) rounds gathered replayed.repaired
    pub status_is : replayed.status ≡ folder_status (status_of gathered) replayed.told.ends

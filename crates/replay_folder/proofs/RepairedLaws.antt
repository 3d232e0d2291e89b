-- What replaying a folder makes of what was gathered, by what its parts are.
use Rattle.std.proofs.Common.{◌≡◌, ℕ, List, [], Option, map, refl}
use Rattle.own_pages.specs.OwnPages.{own_page_at}
use Rattle.own_pages.specs.declared.pages.OwnPages.{OwnPages}
use Rattle.site_hooks.specs.declared.table.Table.{Table}
use Rattle.conflict_desk.specs.Desk.{Books, new_books}
use Rattle.site_line.specs.Reading.{site_patch, site_table, site_same}
use Rattle.site_line.specs.declared.site.Site.{Site}
use Rattle.site_file.specs.Kept.{file_site, file_own}
use Rattle.site_file.specs.declared.file.SiteFile.{SiteFile}
use Rattle.lanes_in_turn.specs.declared.gathered.Gathered.{Gathered}
use Rattle.lanes_in_turn.specs.declared.gathered.Stop.{Stop}
use Rattle.warp_run.specs.Conclusion.{repaired_site, site_of_table}
use Rattle.warp_run.specs.Repair.{docket_with_own, new_repaired}
use Rattle.warp_run.specs.declared.repaired.ClientSummary.{ClientSummary}
use Rattle.warp_run.specs.declared.repaired.PutDecision.{PutDecision}
use Rattle.warp_run.specs.declared.repaired.Repaired.{Repaired}
use Rattle.replay_folder.specs.FolderReport.{last_summary}
use Rattle.replay_folder.specs.declared.ends.UploadEnd.{UploadEnd}

-- what the parts make
abbrev pub as_repaired : Stop → List ClientSummary → Books → List PutDecision → Repaired
as_repaired stop clients desk decided = record { stop = stop; clients = clients; desk = desk; decided = decided }

pub undecided : {R : Type 0} (site : SiteFile) (ends : List UploadEnd) (gathered : Gathered R) (plain : Site) (table : Table) (own : OwnPages) (patch : List (List ℕ)) (same : Option (List (List ℕ)))
    (clients : List ClientSummary) (desk : Books) (decided : List PutDecision)
    → plain ≡ file_site site → table ≡ site_table plain → own ≡ file_own site → patch ≡ site_patch plain → same ≡ site_same plain → clients ≡ map (last_summary ends) gathered.clients.entries
    → desk ≡ new_books (map (docket_with_own (site_of_table table patch same) (own_page_at own)) gathered.clients.entries) → decided ≡ []
    → as_repaired gathered.stop clients desk decided
    ≡ new_repaired gathered.stop (map (last_summary ends) gathered.clients.entries) (map (docket_with_own (repaired_site (file_site site)) (own_page_at (file_own site))) gathered.clients.entries)
undecided site ends gathered plain table own patch same clients desk decided is_plain is_table is_own is_patch is_same are_clients is_desk none =
    rw (none, are_clients, is_desk, is_table, is_patch, is_same, is_own, is_plain) refl

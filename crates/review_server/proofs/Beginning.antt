-- What is shown at the start is what replaying came to on the site that the file says.
use Rattle.std.proofs.Common.{◌≡◌, ℕ, List, Bool, Option, Result, map, subst, sym}
use Rattle.std.specs.declared.io.Error.{Error}
use Rattle.byte_streams.specs.Answers.{Answer}
use Rattle.own_pages.specs.OwnPages.{own_page_at}
use Rattle.site_line.specs.Reading.{site_decisions}
use Rattle.site_file.specs.Kept.{AnswersAsFile, file_site, file_own}
use Rattle.site_file.specs.SiteFile.{FileSite}
use Rattle.site_file.specs.declared.file.SiteFile.{SiteFile}
use Rattle.lanes_in_turn.specs.declared.gathered.Gathered.{Gathered}
use Rattle.warp_run.specs.Conclusion.{repaired_site}
use Rattle.warp_run.specs.Repair.{docket_with_own, new_repaired}
use Rattle.warp_run.specs.Settle.{after_decisions}
use Rattle.warp_run.specs.declared.repaired.Repaired.{Repaired}
use Rattle.replay_folder.specs.FolderReport.{last_summary}
use Rattle.replay_folder.specs.Replayed.{IsReplayedOf}
use Rattle.replay_folder.specs.declared.ends.UploadEnd.{UploadEnd}
use Rattle.replay_folder.specs.declared.replayed.Replayed.{Replayed}
use Rattle.review_service.specs.Answering.{ShowsFile, replayed_of}
use Rattle.review_service.specs.declared.review.Review.{Review}
use Rattle.review_server.specs.Rounds.{IsReviewOf}

module _ {F R : Type 0} (seen : F → List ℕ) (durable : F → ℕ) (lost : F → Bool)
    (opened : List ℕ → Result R Error → Type 0) (listed : List ℕ → Result (Option (List (List ℕ))) Error → Type 0)
    (was_read : R → R → List Answer → Type 0) (words : List (List ℕ)) where
  -- before any decision
  abbrev undecided_of : SiteFile → List UploadEnd → Gathered R → Repaired
  undecided_of site ends gathered = new_repaired gathered.stop (map (last_summary ends) gathered.clients.entries)
      (map (docket_with_own (repaired_site (file_site site)) (own_page_at (file_own site))) gathered.clients.entries)

  pub review_begins : (site : SiteFile) (replayed : Replayed R) (review : Review F R)
      → IsReplayedOf opened listed was_read site words replayed → replayed_of review ≡ replayed
      → ((undecided : Repaired) → replayed.repaired ≡ after_decisions (site_decisions (file_site site)) undecided
      → (first : FileSite) × AnswersAsFile site first × ShowsFile seen durable lost first undecided review)
      → IsReviewOf seen durable lost opened listed was_read words review
  review_begins site replayed review is same shows =
      let undecided = undecided_of site replayed.told.ends is.gathered in
      let shown = shows undecided is.repaired_is in
      record {
        site = site;
        replayed = subst (IsReplayedOf opened listed was_read site words) (sym same) is;
        first = shown.0;
        answers = shown.1;
        undecided = undecided;
        shown = shown.2;
      }

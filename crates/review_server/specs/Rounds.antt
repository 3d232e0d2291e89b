-- What the page's server has in its rounds: this project's own rule.
use Rattle.std.specs.Prelude.{ℕ, List, Bool, Option, Result}
use Rattle.std.specs.declared.io.Error.{Error}
use Rattle.byte_streams.specs.Answers.{Answer}
use Rattle.site_file.specs.Kept.{AnswersAsFile}
use Rattle.site_file.specs.SiteFile.{FileSite}
use Rattle.site_file.specs.declared.file.SiteFile.{SiteFile}
use Rattle.warp_run.specs.declared.repaired.Repaired.{Repaired}
use Rattle.replay_folder.specs.Replayed.{IsReplayedOf}
use Rattle.http_rounds.specs.Rounds.{places_of, service_of}
use Rattle.http_rounds.specs.declared.peer.Peer.{Peer}
use Rattle.review_service.specs.Answering.{ShowsFile, replayed_of}
use Rattle.review_service.specs.declared.review.Review.{Review}
use Rattle.review_server.specs.declared.server.ReviewServer.{ReviewServer}

-- its page
abbrev pub review_of : {S : Type 0} → ReviewServer S → S
review_of server = service_of server.server

-- its connections, place by place
abbrev pub browsers_of : {S : Type 0} → ReviewServer S → List (Option Peer)
browsers_of server = places_of server.server

-- At its start the page shows what replaying came to on the site that the file says, and that is what the file says.
module _ {F R : Type 0} (seen : F → List ℕ) (durable : F → ℕ) (lost : F → Bool)
    (opened : List ℕ → Result R Error → Type 0) (listed : List ℕ → Result (Option (List (List ℕ))) Error → Type 0)
    (was_read : R → R → List Answer → Type 0) (words : List (List ℕ)) where
  pub record IsReviewOf (review : Review F R) : Type 0 where
    pub site : SiteFile
    pub replayed : IsReplayedOf opened listed was_read site words (replayed_of review)
    pub first : FileSite
    pub answers : AnswersAsFile site first
    pub undecided : Repaired
    pub shown : ShowsFile seen durable lost first undecided review

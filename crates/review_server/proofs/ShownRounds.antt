-- What is shown stays what the file says, through a round.
use Rattle.std.proofs.Common.{ℕ, List, Bool, Option, subst, sym}
use Rattle.site_file.specs.SiteFile.{FileSite}
use Rattle.warp_run.specs.declared.repaired.Repaired.{Repaired}
use Rattle.http_rounds.specs.Rounds.{IsServingRound}
use Rattle.http_rounds.specs.declared.peer.Peer.{Peer}
use Rattle.http_rounds.proofs.RoundLaws.{round_holds}
use Rattle.review_service.specs.Answering.{AnswersReview, SettlesAtOnce, StandsShown}
use Rattle.review_service.specs.declared.review.Review.{Review}
use Rattle.review_service.proofs.StillShown.{answer_shown}

module _ {F R : Type 0} (seen : F → List ℕ) (durable : F → ℕ) (lost : F → Bool) (first : FileSite) (undecided : Repaired) where
  pub round_shown : (old new : Review F R) (browsers after : List (Option Peer)) → IsServingRound (AnswersReview seen durable lost) SettlesAtOnce old browsers new after
      → StandsShown seen durable lost first undecided old → StandsShown seen durable lost first undecided new
  round_shown = round_holds (AnswersReview seen durable lost) (StandsShown seen durable lost first undecided) (answer_shown seen durable lost first undecided) SettlesAtOnce
      (λ old stands new settles shown. subst (StandsShown seen durable lost first undecided) (sym settles.1) shown)

-- What is shown stays what the file says, through any answer.
use Rattle.std.proofs.Common.{ℕ, List, Bool, inl, inr, subst, sym}
use Rattle.http.specs.declared.request.Request.{Request}
use Rattle.http_server.specs.declared.response.Response.{Response}
use Rattle.site_file.specs.SiteFile.{FileSite}
use Rattle.warp_run.specs.declared.repaired.Repaired.{Repaired}
use Rattle.review_requests.specs.declared.verdict.Judged.{Judged}
use Rattle.review_requests.specs.declared.verdict.Judged.TheVariants.{Refused, Shows, Decides}
use Rattle.review_service.specs.Answering.{AnswersReview, AnswersAsked, StandsShown}
use Rattle.review_service.specs.declared.review.Review.{Review}

module _ {F R : Type 0} (seen : F → List ℕ) (durable : F → ℕ) (lost : F → Bool) (first : FileSite) (undecided : Repaired) where
  asked_shown : (old : Review F R) (response : Response) (new : Review F R) (judged : Judged) → AnswersAsked seen durable lost old response new judged
      → StandsShown seen durable lost first undecided old → StandsShown seen durable lost first undecided new
  asked_shown old response new (Refused refusal) is shown = subst (StandsShown seen durable lost first undecided) (sym is.0) shown
  asked_shown old response new (Shows view) is shown = subst (StandsShown seen durable lost first undecided) (sym is.0) shown
  asked_shown old response new (Decides decision) is shown = is.1.shown first undecided shown

  pub answer_shown : (old : Review F R) (request : Request (List ℕ)) (response : Response) (new : Review F R) → AnswersReview seen durable lost old request response new
      → StandsShown seen durable lost first undecided old → StandsShown seen durable lost first undecided new
  answer_shown old request response new (inl asked) shown = asked_shown old response new _ asked shown
  answer_shown old request response new (inr bare) shown = subst (StandsShown seen durable lost first undecided) (sym bare.0) shown

-- What the administrator's page answers, and what becomes of what it shows: this project's own rule.
use Rattle.std.specs.Prelude.{◌≡◌, ◌⊎◌, ℕ, List, [], ◌∷◌, ◌++◌, codes, decimal, Bool, true, Option, Some, None, Result, Ok, Err, OnOk, OnErr, option_and_then}
use Rattle.http.specs.declared.request.Request.{Request}
use Rattle.http_server.specs.Response.{IsResponse}
use Rattle.http_server.specs.declared.response.Response.{Response}
use Rattle.conflict_desk.specs.Book.{front_visit}
use Rattle.conflict_desk.specs.Desk.{Books, book_of}
use Rattle.conflict_desk.specs.declared.decision.Decision.{Decision}
use Rattle.site_file.specs.SiteFile.{FileSite}
use Rattle.warp_run.specs.Settle.{after_decisions}
use Rattle.warp_run.specs.declared.repaired.Repaired.{Repaired}
use Rattle.replay_folder.specs.declared.replayed.Replayed.{Replayed}
use Rattle.decision_file.specs.Keeping.{AnswersDecision, BeginsWithKept, HasKept, IsShown, is_open_file}
use Rattle.decision_file.specs.Line.{decide_text}
use Rattle.decision_file.specs.declared.undecided.Undecided.{Undecided}
use Rattle.review_requests.specs.Verdict.{asked_of}
use Rattle.review_requests.specs.declared.verdict.Judged.{Judged}
use Rattle.review_requests.specs.declared.verdict.Judged.TheVariants.{Refused, Shows, Decides}
use Rattle.review_service.specs.Fields.{IsBare, IsHtmlPage, sent_on_fields}
use Rattle.review_service.specs.Statuses.{IsRefusal, undecided_status}
use Rattle.review_service.specs.Showing.{ShowsView}
use Rattle.review_service.specs.declared.review.Review.{Review}

-- ---- where whoever decided is sent on to

abbrev pub front_of_client : List ℕ → Books → Option ℕ
front_of_client client desk = option_and_then front_visit (book_of client desk)

-- to the client's next front, or else to the client; the visit that was decided is named
abbrev pub next_place : List ℕ → ℕ → Option ℕ → List ℕ
next_place client decided (Some front) = codes "/visit?c=" ++ client ++ codes "&v=" ++ decimal front
    ++ codes "&told=" ++ decimal decided
next_place client decided None = codes "/client?c=" ++ client ++ codes "&told=" ++ decimal decided

-- without memory for that to the overview
abbrev pub SendsOn : Decision → Books → Response → Type 0
SendsOn decision desk response = (place : List ℕ) × IsResponse 303 (sent_on_fields place) [] response
    × ((place ≡ codes "/") ⊎ (place ≡ next_place decision.client decision.visit (front_of_client decision.client desk)))

-- ---- what is shown

abbrev pub repaired_shown : {F R : Type 0} → Review F R → Repaired
repaired_shown review = review.replayed.repaired

-- more decisions may be kept
abbrev pub is_open : {F R : Type 0} → Review F R → Bool
is_open review = is_open_file review.decisions

-- what replaying came to, with the decisions since
abbrev pub replayed_of : {F R : Type 0} → Review F R → Replayed R
replayed_of review = review.replayed

-- the port that it is asked at, and the word that its forms have
abbrev pub port_of : {F R : Type 0} → Review F R → ℕ
port_of review = review.port

abbrev pub token_of : {F R : Type 0} → Review F R → List ℕ
token_of review = review.token

-- 303 just where the decision was made; 409 where the desk has something against it
abbrev pub TellsDecision : Decision → Books → Result (Unit {0}) Undecided → Response → Type 0
TellsDecision decision desk (Ok done) response = SendsOn decision desk response
TellsDecision decision desk (Err why) response = IsHtmlPage (undecided_status why) response ⊎ IsBare response

-- `seen` is what a file gives to read, `durable` how many of these bytes stay whatever happens, and `lost` tells that
-- nothing is known of it.
module _ {F R : Type 0} (seen : F → List ℕ) (durable : F → ℕ) (lost : F → Bool) where
  -- What is shown is what the file says, and that stays.
  abbrev pub ShowsFile : FileSite → Repaired → Review F R → Type 0
  ShowsFile first undecided review = IsShown seen durable lost first undecided review.decisions (repaired_shown review)

  -- It is so as long as the file is open.
  abbrev pub StandsShown : FileSite → Repaired → Review F R → Type 0
  StandsShown first undecided review = is_open review ≡ true → ShowsFile first undecided review

  -- The desk is asked; where it has nothing against the decision, its line is kept, and then it is made. Nothing else
  -- changes.
  pub record IsDecided (old : Review F R) (decision : Decision) (result : Result (Unit {0}) Undecided)
      (new : Review F R) : Type 0 where
    pub answer : AnswersDecision (repaired_shown old) decision result
    pub decided : OnOk result (repaired_shown new ≡ after_decisions (decision ∷ []) (repaired_shown old))
    pub same : OnErr result (repaired_shown new ≡ repaired_shown old)
    pub shown : (first : FileSite) (undecided : Repaired)
        → StandsShown first undecided old → StandsShown first undecided new
    pub stays_open : OnOk result (is_open new ≡ true)
    pub line : OnOk result ((bytes : List ℕ) → HasKept seen durable lost old.decisions bytes
        → HasKept seen durable lost new.decisions (bytes ++ decide_text decision))
    pub begins : (bytes : List ℕ) → HasKept seen durable lost old.decisions bytes
        → BeginsWithKept seen durable lost new.decisions bytes
    pub rest : new ≡ record old {
      decisions = new.decisions;
      replayed = record old.replayed { repaired = repaired_shown new };
    }

  -- A request is answered by its verdict. But for a decision nothing changes.
  abbrev pub AnswersAsked : Review F R → Response → Review F R → Judged → Type 0
  AnswersAsked old response new (Refused refusal) = (new ≡ old) × IsRefusal refusal response
  AnswersAsked old response new (Shows view) = (new ≡ old) × ShowsView old.replayed view response
  AnswersAsked old response new (Decides decision) = (result : Result (Unit {0}) Undecided)
      × IsDecided old decision result new × TellsDecision decision (repaired_shown new).desk result response

  -- Without memory nothing is done.
  abbrev pub AnswersReview : Review F R → Request (List ℕ) → Response → Review F R → Type 0
  AnswersReview old request response new = AnswersAsked old response new (asked_of request (port_of old) (token_of old))
      ⊎ ((new ≡ old) × IsBare response)

-- What was answered stands at once: a decision is synced in its own call.
abbrev pub SettlesAtOnce : {F R : Type 0} → Review F R → Bool → Review F R → Type 0
SettlesAtOnce old stands new = (stands ≡ true) × (new ≡ old)

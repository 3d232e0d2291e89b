-- What a run makes of the upload that it reads, and what is told of requests one by one.
use Rattle.std.specs.Prelude.{◌≡◌, ℕ, List, [], ◌∷◌, ◌++◌, codes, decimal, if◌then◌else◌, Option, Some}
use Rattle.std.specs.Option.{option_map_or}
use Rattle.json.specs.Print.{escape}
use Rattle.upload_reader.specs.Upload.{UploadState}
use Rattle.client_log.specs.declared.visit.Visit.{Visit}
use Rattle.replay_workers.specs.declared.pool.KeptVisits.{KeptVisits}
use Rattle.lanes_in_turn.specs.declared.gathered.Gathered.{Gathered}
use Rattle.lanes_in_turn.specs.declared.gathered.LaneResult.{LaneResult}
use Rattle.visit_replay.specs.declared.requests.Request.{Request}
use Rattle.visit_replay.specs.declared.told.ToldForm.{ToldForm}
use Rattle.visit_replay.specs.Form.{bare}
use Rattle.warp_run.specs.Report.{request_line, json_string}
pub mod Telling

-- a lane alone was gathered, and it has its upload
pub record HasOnlyUpload {R : Type 0} (gathered : Gathered R) : Type 0 where
  pub entry : List ℕ × LaneResult R
  pub now : UploadState R
  pub entries_are : gathered.clients.entries ≡ entry ∷ []
  pub upload_is : entry.1.upload ≡ Some now

-- the line of a request behind a word, where there is one
abbrev pub told_line : List ℕ → Option Request → List ℕ
told_line word told = option_map_or (λ r. word ++ request_line r) told []

-- the line of a form's request, up to the pairs
abbrev pub form_start : ToldForm → List ℕ
form_start form = if form.post
    then codes "post " ++ decimal form.number ++ codes " " ++ json_string form.action.now ++ 32 ∷ 34 ∷ []
    else codes "get " ++ decimal form.number ++ 32 ∷ 34 ∷ [] ++ escape (bare form.action.now) ++ codes "?"

-- a client with the visits that are kept of it
abbrev pub client_visits : KeptVisits → List ℕ × List Visit
client_visits one = (one.client.now, one.visits.now)

abbrev pub lane_visits : {R : Type 0} → List ℕ × LaneResult R → List ℕ × List Visit
lane_visits entry = (entry.0, entry.1.log.log.visits)

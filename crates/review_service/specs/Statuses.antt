-- The statuses of the answers: this project's own rule.
use Rattle.std.specs.Prelude.{ℕ, List, [], ◌∷◌, ◌++◌, codes}
use Rattle.http1.specs.Fields.{Header}
use Rattle.http_server.specs.Response.{IsResponse}
use Rattle.http_server.specs.declared.response.Response.{Response}
use Rattle.upload_files.specs.declared.growing_file.FileFault.TheVariants.{Full}
use Rattle.decision_file.specs.declared.undecided.Undecided.{Undecided}
use Rattle.decision_file.specs.declared.undecided.Undecided.TheVariants.{Refused, Unwritten}
use Rattle.review_requests.specs.Status.{refusal_status}
use Rattle.review_requests.specs.declared.refusal.Refusal.{Refusal}
use Rattle.review_requests.specs.declared.refusal.Refusal.TheVariants.{OnlyRead, OnlyPosted}
use Rattle.review_service.specs.Fields.{html_fields, page_policy}

-- the methods that an address takes, where another one was used
abbrev pub allow_fields : Refusal → List Header
allow_fields OnlyRead = (codes "allow", codes "GET, HEAD") ∷ []
allow_fields OnlyPosted = (codes "allow", codes "POST") ∷ []
allow_fields refusal = []

-- C1 and C2 are the desk's; 507 where the disk is full
abbrev pub undecided_status : Undecided → ℕ
undecided_status (Refused fault) = 409
undecided_status (Unwritten Full) = 507
undecided_status why = 503

abbrev pub IsRefusal : Refusal → Response → Type 0
IsRefusal refusal response = (text : List ℕ)
    × IsResponse (refusal_status refusal) (html_fields page_policy ++ allow_fields refusal) text response

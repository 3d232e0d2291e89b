-- By which status a refusal is said: RFC 9110, section 15.5.
use Rattle.std.specs.Prelude.{ℕ}
use Rattle.review_requests.specs.declared.refusal.Refusal.{Refusal}
use Rattle.review_requests.specs.declared.refusal.Refusal.TheVariants.{OtherHost, NoAddress, OnlyRead, OnlyPosted, OtherPage, NoForm, LongForm, BadForm, OldToken}

abbrev pub refusal_status : Refusal → ℕ
refusal_status OtherHost = 421
refusal_status NoAddress = 404
refusal_status OnlyRead = 405
refusal_status OnlyPosted = 405
refusal_status OtherPage = 403
refusal_status NoForm = 415
refusal_status LongForm = 413
refusal_status BadForm = 400
refusal_status OldToken = 403

use Rattle.std.proofs.Common.{◌≡◌, ◌∙◌, ap, sym, ℕ, List, Some, true, Err}
use Rattle.std.specs.Prelude.{IsSome}
use Rattle.json.specs.Token.{Token}
use Rattle.json.specs.Lex.{tokens}
use Rattle.json.specs.Json as json
use Rattle.json.specs.Find.{BeginsWith}
use Rattle.serde_json.specs.Read.{read, of_json}
use Rattle.json_document.specs.Standing.{data_of}
use Rattle.json_document.specs.Fitting.{IsPlace, fit}
use Rattle.json_document.proofs.FitLaws.{fit_is_read, broken_is_not_read, unfit_is_not_read}
use Rattle.json_document.proofs.Stand.{some_of, data_is}
use Rattle.json_document.proofs.document.Document.parse.Goals as goal

-- a tape that fits is a place, and what it stands for is what is read
taken : (text bytes : List ℕ) (tape : List Token) → text ≡ bytes → (tape ≡ tokens text) × IsSome (json.document text) → ((j : json.Json) → json.document text ≡ Some j → BeginsWith tape j)
    → fit 0 tape ≡ true → IsPlace tape × (read bytes ≡ Some (data_of tape))
taken text bytes tape same (spelled, some) begins fine =
    let (j, is) = some_of (json.document text) some in
    let (there, told) = fit_is_read text j is (ap (fit 0) (sym spelled) ∙ fine) in
    let (d, read_so) = some_of (of_json j) there in
    ((j, begins j is, there), ap read (sym same) ∙ told ∙ read_so ∙ ap Some (sym (data_is tape j d (begins j is) read_so)))

pub invariant_of-result : goal.invariant_of-result
invariant_of-result c =
    (taken c.in-Ok.text.now c.args.bytes.now c.in-Ok-parse.tape c.in-Ok.ensures.cases.0 c.in-Ok-parse.ensures.ok c.in-Ok-parse.ensures.value (ap (fit 0) (sym c.nodes.ensures.tokens) ∙ sym c.if-fit.ensures)).0

pub returns-then-fit-clause-ok : goal.returns-then-fit-clause-ok
returns-then-fit-clause-ok c = (
  c.in-Ok.ensures.cases.1,
  (taken c.in-Ok.text.now c.args.bytes.now c.in-Ok-parse.tape c.in-Ok.ensures.cases.0 c.in-Ok-parse.ensures.ok c.in-Ok-parse.ensures.value (ap (fit 0) (sym c.nodes.ensures.tokens) ∙ sym c.if-fit.ensures)).1,
)

pub returns-in-Ok-parse-clause-not_json : goal.returns-in-Ok-parse-clause-not_json
returns-in-Ok-parse-clause-not_json c =
    λ _ utf8.
    let (spelled, some) = c.in-Ok-parse.ensures.ok in
    let (j, is) = some_of (json.document c.in-Ok.text.now) some in
    ap read (sym c.in-Ok.ensures.cases.0) ∙ unfit_is_not_read c.in-Ok.text.now j is (ap (fit 0) (sym spelled ∙ sym c.nodes.ensures.tokens) ∙ sym c.if-fit.ensures)

pub returns-in-Err-Invalid-clause-not_json : goal.returns-in-Err-Invalid-clause-not_json
returns-in-Err-Invalid-clause-not_json c = λ _ utf8. ap read (sym c.in-Ok.ensures.cases.0) ∙ broken_is_not_read c.in-Ok.text.now (c.in-Err-Invalid.ensures.invalid (ap Err c.in-Err-Invalid.field-0-is))

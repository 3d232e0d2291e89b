use Rattle.std.proofs.Common.{◌∙◌, ap, None, Some, option_and_then}
use Rattle.serde_json.specs.Find.{as_number, as_u64}
use Rattle.json_document.specs.Standing.{data_of}
use Rattle.json_document.proofs.Stand.{place_number}
use Rattle.json_document.proofs.place.JsonPlace.as_u64.Goals as goal

pub returns-in_err-as_number : goal.returns-in_err-as_number
returns-in_err-as_number c =
    c.from_residual.ensures ∙ ap (option_and_then as_u64) (place_number c.self.inside.element None c.self.invariant c.in_err-as_number.ensures ∙ ap (λ ts. as_number (data_of ts)) c.self.view_is)

pub returns : goal.returns
returns c =
    c.unsigned.ensures
    ∙ ap (option_and_then as_u64) (place_number c.self.inside.element (Some c.in_ok-as_number.field-0.now) c.self.invariant c.in_ok-as_number.ensures ∙ ap (λ ts. as_number (data_of ts)) c.self.view_is)

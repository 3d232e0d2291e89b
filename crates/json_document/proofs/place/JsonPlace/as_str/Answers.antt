use Rattle.std.proofs.Common.{◌∙◌, ap}
use Rattle.serde_json.specs.Find.{as_str}
use Rattle.json_document.specs.Standing.{data_of}
use Rattle.json_document.proofs.Stand.{place_str}
use Rattle.json_document.proofs.place.JsonPlace.as_str.Goals as goal

pub returns : goal.returns
returns c = place_str c.self.inside.element _ c.self.invariant c.as_str.ensures ∙ ap (λ ts. as_str (data_of ts)) c.self.view_is

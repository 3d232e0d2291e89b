use Rattle.std.proofs.Common.{◌∙◌, ap, Some}
use Rattle.serde_json.specs.Find.{get}
use Rattle.json_document.specs.Standing.{data_of}
use Rattle.json_document.proofs.Stand.{place_found, place_lacks}
use Rattle.json_document.proofs.place.JsonPlace.get.Goals as goal

pub at-requires : goal.at-requires
at-requires c = (place_found c.self.inside.element c.in-Some.element c.args.name.now c.self.invariant c.in-Some.ensures).0

pub returns-in-Some : goal.returns-in-Some
returns-in-Some c =
    ap (λ ts. Some (data_of ts)) c.at.ensures ∙ (place_found c.self.inside.element c.in-Some.element c.args.name.now c.self.invariant c.in-Some.ensures).1
    ∙ ap (λ ts. get c.args.name.now (data_of ts)) c.self.view_is

pub returns-in-None : goal.returns-in-None
returns-in-None c = place_lacks c.self.inside.element c.args.name.now c.self.invariant c.in-None.ensures ∙ ap (λ ts. get c.args.name.now (data_of ts)) c.self.view_is

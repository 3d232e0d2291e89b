use Rattle.std.proofs.Common.{◌∙◌, ap, Some}
use Rattle.serde_json.specs.Find.{as_array}
use Rattle.json_document.specs.Standing.{data_of, items_behind}
use Rattle.json_document.proofs.Stand.{place_items, place_no_items}
use Rattle.json_document.proofs.place.JsonPlace.items.Goals as goal

pub of-requires : goal.of-requires
of-requires c = (place_items c.self.inside.element c.in-Some.items c.self.invariant c.in-Some.ensures).0

pub returns-in-Some : goal.returns-in-Some
returns-in-Some c =
    ap (λ ts. Some (items_behind ts)) c.of.ensures ∙ (place_items c.self.inside.element c.in-Some.items c.self.invariant c.in-Some.ensures).1 ∙ ap (λ ts. as_array (data_of ts)) c.self.view_is

pub returns-in-None : goal.returns-in-None
returns-in-None c = place_no_items c.self.inside.element c.self.invariant c.in-None.ensures ∙ ap (λ ts. as_array (data_of ts)) c.self.view_is

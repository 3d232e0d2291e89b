use Rattle.std.proofs.Common.{◌∙◌, ap, Some}
use Rattle.serde_json.specs.Data.{no_members}
use Rattle.serde_json.specs.Find.{as_object}
use Rattle.json_document.specs.Standing.{data_of, members_behind, put_all}
use Rattle.json_document.proofs.Stand.{place_members, place_no_members}
use Rattle.json_document.proofs.place.JsonPlace.members.Goals as goal

pub of-requires : goal.of-requires
of-requires c = (place_members c.self.inside.element c.in-Some.members c.self.invariant c.in-Some.ensures).0

pub returns-in-Some : goal.returns-in-Some
returns-in-Some c =
    ap (λ ts. Some (put_all (members_behind ts) no_members)) c.of.ensures ∙ (place_members c.self.inside.element c.in-Some.members c.self.invariant c.in-Some.ensures).1 ∙ ap (λ ts. as_object (data_of ts)) c.self.view_is

pub returns-in-None : goal.returns-in-None
returns-in-None c = place_no_members c.self.inside.element c.self.invariant c.in-None.ensures ∙ ap (λ ts. as_object (data_of ts)) c.self.view_is

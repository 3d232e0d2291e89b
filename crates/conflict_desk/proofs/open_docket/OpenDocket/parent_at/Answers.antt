use Rattle.std.proofs.Common.{◌≡◌, None, Some, length, get_or, slice_get, option_and_then, sym, ap, subst, ◌∙◌, arith}
use Rattle.conflict_desk.specs.Docket.{parent_of}
use Rattle.conflict_desk.specs.declared.links.Link.{Link}
use Rattle.conflict_desk.proofs.Along.{parent_linked}
use Rattle.conflict_desk.proofs.open_docket.OpenDocket.parent_at.Goals as goal

abbrev no_link : Link
no_link = record { parent = None; jump = None; reach = 0 }

pub returns : goal.returns
returns c = λ case at.
    let o = c.self.inside in
    let place = c.args.place in
    let here : slice_get o.cases place ≡ Some case = ap (λ b. slice_get b.cases place) c.self.view_is ∙ at in
    subst (λ b. option_and_then (slice_get b.cases) (get_or c.as_slice.result.now place no_link).parent ≡ parent_of b.cases case) c.self.view_is
    (subst (λ ls. option_and_then (slice_get o.cases) (get_or ls place no_link).parent ≡ parent_of o.cases case) (sym c.as_slice.ensures.value)
    (parent_linked o.cases o.links.items c.self.invariant.0.links_are place no_link case
    (omega (arith, c.requires, c.self.invariant.0.links_count, ap (λ b. length b.cases) c.self.view_is)) here))

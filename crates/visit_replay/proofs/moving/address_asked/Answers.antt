use Rattle.std.proofs.Common.{◌≡◌, Some, None, refl, ap, ◌∙◌}
use Rattle.visit_replay.specs.inside.FirstDeeds.{first_asked}
use Rattle.visit_replay.specs.inside.Tellings.{told_request}
use Rattle.visit_replay.specs.inside.Trails.{asked_at}
use Rattle.visit_replay.proofs.FirstAsked.{first_address}
use Rattle.visit_replay.proofs.moving.address_asked.Goals as goal

pub returns-in_default-clause-address : goal.returns-in_default-clause-address
returns-in_default-clause-address c =
    let none : None ≡ first_asked c.args.trail.now c.args.number = rw c.in_default.is at c.in_ok-place.ensures.first in
    first_address c.args.trail.now c.args.number None None none refl

pub returns-in-None-clause-address : goal.returns-in-None-clause-address
returns-in-None-clause-address c =
    let trail = c.args.trail.now in
    let place : Some c.in-Some.place ≡ first_asked trail c.args.number = rw c.in-Some.is at c.in_ok-place.ensures.first in
    let none : None ≡ asked_at trail c.in-Some.place = rw c.in-None.is at c.told.ensures.told in
    first_address trail c.args.number (Some c.in-Some.place) None place none

pub returns-in_ok-address-in-Some-told-clause-address : goal.returns-in_ok-address-in-Some-told-clause-address
returns-in_ok-address-in-Some-told-clause-address c =
    let trail = c.args.trail.now in
    let place : Some c.in-Some.place ≡ first_asked trail c.args.number = rw c.in-Some.is at c.in_ok-place.ensures.first in
    let some : Some (told_request c.in-Some-told.told) ≡ asked_at trail c.in-Some.place = rw c.in-Some-told.is at c.told.ensures.told in
    ap Some c.in_ok-address-in-Some-told.ensures ∙ first_address trail c.args.number (Some c.in-Some.place) (Some (told_request c.in-Some-told.told)) place some

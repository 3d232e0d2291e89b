use Rattle.std.proofs.Common.{◌≡◌, ◌<◌, length, slice_get, Some, None, subst, sym, ◌∙◌, arith}
use Rattle.page_tree.specs.Limits.{nodes}
use Rattle.visit_replay.specs.Aim.{by_path}
use Rattle.visit_replay.specs.inside.Differing.{IsTargetOf}
use Rattle.visit_replay.specs.inside.OneEvent.{IsWithin}
use Rattle.visit_replay.proofs.Asking.{aims_there, asked_nothing, asked_where, stands_in}
use Rattle.visit_replay.proofs.TrailLaws.{last_made}
use Rattle.visit_replay.proofs.differing.was_asked.Goals as goal

pub returns-in_default : goal.returns-in_default
returns-in_default c =
    let visit = c.args.visit.now in
    let event = c.index-events-k.result in
    let below : c.args.k < length c.as_slice-events.result.now = omega arith in
    let at : slice_get visit.events c.args.k ≡ Some event = stands_in visit c.as_slice-events.result.now c.args.k event c.as_slice-events.ensures below c.index-events-k.is in
    let leads : IsTargetOf visit.page event None = rw c.in_default.is at c.in_ok-target.ensures.target in
    sym (asked_nothing visit c.args.k event at leads)

pub note-requires-clause-there : goal.note-requires-clause-there
note-requires-clause-there c =
    let leads : IsTargetOf c.args.visit.now.page c.index-events-k.result (Some c.in-Some.target) = rw c.in-Some.is at c.in_ok-target.ensures.target in
    subst (λ p. c.in-Some.target < nodes p) (sym c.in_ok-trail.ensures.page) leads.0

pub note-requires-clause-button : goal.note-requires-clause-button
note-requires-clause-button c = subst (IsWithin c.in_ok-button.button) (sym c.in_ok-trail.ensures.page) c.in_ok-button.ensures.within

pub returns : goal.returns
returns c =
    let visit = c.args.visit.now in
    let event = c.index-events-k.result in
    let below : c.args.k < length c.as_slice-events.result.now = omega arith in
    let at : slice_get visit.events c.args.k ≡ Some event = stands_in visit c.as_slice-events.result.now c.args.k event c.as_slice-events.ensures below c.index-events-k.is in
    let leads : IsTargetOf visit.page event (Some c.in-Some.target) = rw c.in-Some.is at c.in_ok-target.ensures.target in
    c.in_ok-single.ensures
    ∙ last_made (by_path visit.page) visit visit.page c.args.k event c.in-Some.target c.in_ok-button.button c.in_ok-trail.trail c.note.new.self c.in_ok-trail.ensures
    c.in_ok-note.ensures.deeds c.note.ensures.address c.note.ensures.page
    ∙ asked_where visit c.args.k event c.in-Some.target c.in_ok-button.button at (aims_there visit.page event c.in-Some.target c.in_ok-button.button leads c.in_ok-button.ensures.place)

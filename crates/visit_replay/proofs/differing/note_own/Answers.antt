use Rattle.std.proofs.Common.{◌≡◌, ◌<◌, get_or, Some, None, sym, subst}
use Rattle.page_tree.specs.Limits.{nodes}
use Rattle.visit_replay.specs.Aim.{by_path}
use Rattle.visit_replay.specs.inside.Differing.{IsTargetOf}
use Rattle.visit_replay.specs.inside.OneEvent.{IsWithin}
use Rattle.visit_replay.proofs.Asking.{aims_there}
use Rattle.visit_replay.proofs.TrailLaws.{trail_more, trail_stays}
use Rattle.visit_replay.proofs.differing.note_own.Goals as goal

pub returns-in_default-clause-further : goal.returns-in_default-clause-further
returns-in_default-clause-further c =
    let visit = c.args.visit.now in
    let event = c.index-as_slice-k.result in
    let is : event ≡ get_or visit.events c.args.k event = rw c.as_slice.ensures at c.index-as_slice-k.is in
    let leads : IsTargetOf visit.page event None = rw c.in_default.is at c.in_ok-target.ensures.target in
    trail_stays (by_path visit.page) visit visit.page c.args.k event c.requires.there is c.args.trail.now c.requires.so_far leads

pub note-requires-clause-there : goal.note-requires-clause-there
note-requires-clause-there c =
    let leads : IsTargetOf c.args.visit.now.page c.index-as_slice-k.result (Some c.in-Some.target) = rw c.in-Some.is at c.in_ok-target.ensures.target in
    subst (λ p. c.in-Some.target < nodes p) (sym c.requires.so_far.page) leads.0

pub note-requires-clause-button : goal.note-requires-clause-button
note-requires-clause-button c = subst (IsWithin c.in_ok-button.button) (sym c.requires.so_far.page) c.in_ok-button.ensures.within

pub returns-clause-further : goal.returns-clause-further
returns-clause-further c =
    let visit = c.args.visit.now in
    let event = c.index-as_slice-k.result in
    let is : event ≡ get_or visit.events c.args.k event = rw c.as_slice.ensures at c.index-as_slice-k.is in
    let leads : IsTargetOf visit.page event (Some c.in-Some.target) = rw c.in-Some.is at c.in_ok-target.ensures.target in
    trail_more (by_path visit.page) visit visit.page c.args.k event c.requires.there is c.in-Some.target c.in_ok-button.button c.args.trail.now c.note.new.self c.requires.so_far
    (aims_there visit.page event c.in-Some.target c.in_ok-button.button leads c.in_ok-button.ensures.place) c.in_ok-note.ensures.deeds c.note.ensures.address c.note.ensures.page

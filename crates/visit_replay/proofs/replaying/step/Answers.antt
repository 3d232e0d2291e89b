use Rattle.std.proofs.Common.{◌≡◌, ◌<◌, Some, None, true, false, take, get_or, ap, sym, ◌∙◌, subst}
use Rattle.page_tree.specs.Limits.{nodes}
use Rattle.visit_replay.specs.Aim.{place_of_aim, has_strayed}
use Rattle.visit_replay.specs.inside.OneEvent.{Locates, IsWithin, aimed, names_aimed}
use Rattle.visit_replay.specs.declared.conflicts.Located.TheVariants.{At}
use Rattle.visit_replay.specs.declared.conflicts.Located.TheVariants.{Bad, Idle}
use Rattle.visit_replay.proofs.Judged.{stands_at}
use Rattle.visit_replay.proofs.Places.{taken_here}
use Rattle.visit_replay.proofs.Straying.{touched_nowhere}
use Rattle.visit_replay.proofs.Stepping.{judged_here, strayed_here}
use Rattle.visit_replay.proofs.TrailLaws.{trail_more, trail_stays}
use Rattle.visit_replay.proofs.replaying.step.Goals as goal

pub returns-clause-further : goal.returns-clause-further
returns-clause-further c =
    let visit = c.args.visit.now in
    let new = c.args.new.now in
    let event = c.index-as_slice-i.result in
    let is : event ≡ get_or visit.events c.args.i event = rw c.as_slice.ensures at c.index-as_slice-i.is in
    let aim = aimed c.args.aiming.now visit.page new in
    let located : Locates aim visit.page new event (At c.in-At.target c.in-At.button) = rw c.in-At.is at (c.in_ok-kind.ensures aim c.in_ok-aim.ensures.aims) in
    trail_more aim visit new c.args.i event c.requires.there is c.in-At.target c.in-At.button c.args.trail.now c.note.new.self c.requires.so_far located.1.2
    c.in_ok-note.ensures.deeds c.note.ensures.address c.note.ensures.page

pub judged-requires-clause-located : goal.judged-requires-clause-located
judged-requires-clause-located c = (aimed c.args.aiming.now c.args.visit.now.page c.args.new.now c.index-as_slice-i.result, c.in_ok-aim.ensures.aims)

pub returns-in-Bad-clause-conflict : goal.returns-in-Bad-clause-conflict
returns-in-Bad-clause-conflict c =
    let visit = c.args.visit.now in
    let new = c.args.new.now in
    let event = c.index-as_slice-i.result in
    let is : event ≡ get_or visit.events c.args.i event = rw c.as_slice.ensures at c.index-as_slice-i.is in
    let aim = aimed c.args.aiming.now visit.page new in
    let located : Locates aim visit.page new event (Bad c.in-Bad.kind) = rw c.in-Bad.is at (c.in_ok-kind.ensures aim c.in_ok-aim.ensures.aims) in
    let names = names_aimed c.args.aiming.now in
    let unstrayed : has_strayed names visit.page new (take c.args.i visit.events) event ≡ false = sym (c.has_strayed.ensures (take c.args.i visit.events) c.requires.touched) ∙ c.if-has_strayed.false in
    sym (judged_here names visit.page new visit.events c.args.i event false (Some c.in-Bad.kind) (stands_at visit c.args.i event c.requires.there is) unstrayed located)

pub returns-in-Idle-clause-conflict : goal.returns-in-Idle-clause-conflict
returns-in-Idle-clause-conflict c =
    let visit = c.args.visit.now in
    let new = c.args.new.now in
    let event = c.index-as_slice-i.result in
    let is : event ≡ get_or visit.events c.args.i event = rw c.as_slice.ensures at c.index-as_slice-i.is in
    let aim = aimed c.args.aiming.now visit.page new in
    let located : Locates aim visit.page new event Idle = rw c.in-Idle.is at (c.in_ok-kind.ensures aim c.in_ok-aim.ensures.aims) in
    let names = names_aimed c.args.aiming.now in
    let unstrayed : has_strayed names visit.page new (take c.args.i visit.events) event ≡ false = sym (c.has_strayed.ensures (take c.args.i visit.events) c.requires.touched) ∙ c.if-has_strayed.false in
    sym (judged_here names visit.page new visit.events c.args.i event false None (stands_at visit c.args.i event c.requires.there is) unstrayed located.0)

pub returns-clause-conflict : goal.returns-clause-conflict
returns-clause-conflict c =
    let visit = c.args.visit.now in
    let new = c.args.new.now in
    let event = c.index-as_slice-i.result in
    let is : event ≡ get_or visit.events c.args.i event = rw c.as_slice.ensures at c.index-as_slice-i.is in
    let aim = aimed c.args.aiming.now visit.page new in
    let located : Locates aim visit.page new event (At c.in-At.target c.in-At.button) = rw c.in-At.is at (c.in_ok-kind.ensures aim c.in_ok-aim.ensures.aims) in
    let names = names_aimed c.args.aiming.now in
    let unstrayed : has_strayed names visit.page new (take c.args.i visit.events) event ≡ false = sym (c.has_strayed.ensures (take c.args.i visit.events) c.requires.touched) ∙ c.if-has_strayed.false in
    sym (judged_here names visit.page new visit.events c.args.i event false None (stands_at visit c.args.i event c.requires.there is) unstrayed located.0)

pub note-requires-clause-there : goal.note-requires-clause-there
note-requires-clause-there c =
    let aim = aimed c.args.aiming.now c.args.visit.now.page c.args.new.now in
    let located : Locates aim c.args.visit.now.page c.args.new.now c.index-as_slice-i.result (At c.in-At.target c.in-At.button) = rw c.in-At.is at (c.in_ok-kind.ensures aim c.in_ok-aim.ensures.aims) in
    subst (λ p. c.in-At.target < nodes p) (sym c.requires.so_far.page) located.1.0

pub note-requires-clause-button : goal.note-requires-clause-button
note-requires-clause-button c =
    let aim = aimed c.args.aiming.now c.args.visit.now.page c.args.new.now in
    let located : Locates aim c.args.visit.now.page c.args.new.now c.index-as_slice-i.result (At c.in-At.target c.in-At.button) = rw c.in-At.is at (c.in_ok-kind.ensures aim c.in_ok-aim.ensures.aims) in
    subst (IsWithin c.in-At.button) (sym c.requires.so_far.page) located.1.1

pub returns-in-Idle-clause-further : goal.returns-in-Idle-clause-further
returns-in-Idle-clause-further c =
    let visit = c.args.visit.now in
    let new = c.args.new.now in
    let event = c.index-as_slice-i.result in
    let is : event ≡ get_or visit.events c.args.i event = rw c.as_slice.ensures at c.index-as_slice-i.is in
    let aim = aimed c.args.aiming.now visit.page new in
    let located : Locates aim visit.page new event Idle = rw c.in-Idle.is at (c.in_ok-kind.ensures aim c.in_ok-aim.ensures.aims) in
    trail_stays aim visit new c.args.i event c.requires.there is c.args.trail.now c.requires.so_far (ap place_of_aim located.1)

pub returns-then-has_strayed-clause-conflict : goal.returns-then-has_strayed-clause-conflict
returns-then-has_strayed-clause-conflict c =
    let visit = c.args.visit.now in
    let new = c.args.new.now in
    let event = c.index-as_slice-i.result in
    let is : event ≡ get_or visit.events c.args.i event = rw c.as_slice.ensures at c.index-as_slice-i.is in
    let names = names_aimed c.args.aiming.now in
    let strayed : has_strayed names visit.page new (take c.args.i visit.events) event ≡ true = sym (c.has_strayed.ensures (take c.args.i visit.events) c.requires.touched) ∙ c.if-has_strayed.true in
    sym (strayed_here names visit.page new visit.events c.args.i event (stands_at visit c.args.i event c.requires.there is) strayed)

pub has_strayed-requires-clause-touched : goal.has_strayed-requires-clause-touched
has_strayed-requires-clause-touched c = (take c.args.i c.args.visit.now.events, c.requires.touched)

pub note-requires-2-clause-acts : goal.note-requires-2-clause-acts
note-requires-2-clause-acts c =
    let visit = c.args.visit.now in
    let new = c.args.new.now in
    let event = c.index-as_slice-i.result in
    let aim = aimed c.args.aiming.now visit.page new in
    let located : Locates aim visit.page new event (At c.in-At.target c.in-At.button) = rw c.in-At.is at (c.in_ok-kind.ensures aim c.in_ok-aim.ensures.aims) in
    (located.1.0, ap place_of_aim located.1.2)

pub returns-in-Idle-clause-touched : goal.returns-in-Idle-clause-touched
returns-in-Idle-clause-touched c =
    let visit = c.args.visit.now in
    let new = c.args.new.now in
    let event = c.index-as_slice-i.result in
    let is : event ≡ get_or visit.events c.args.i event = rw c.as_slice.ensures at c.index-as_slice-i.is in
    let aim = aimed c.args.aiming.now visit.page new in
    let located : Locates aim visit.page new event Idle = rw c.in-Idle.is at (c.in_ok-kind.ensures aim c.in_ok-aim.ensures.aims) in
    rw (taken_here visit.events c.args.i event c.requires.there is)
    (touched_nowhere (names_aimed c.args.aiming.now) visit.page new c.args.touched.now (take c.args.i visit.events) event (ap place_of_aim located.1) c.requires.touched)

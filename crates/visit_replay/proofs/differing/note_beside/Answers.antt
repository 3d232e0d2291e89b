use Rattle.std.proofs.Common.{◌≡◌, ◌<◌, get_or, sym, ap, subst}
use Rattle.page_tree.specs.Limits.{nodes}
use Rattle.visit_replay.specs.Aim.{place_of_aim}
use Rattle.visit_replay.specs.inside.OneEvent.{AimsAt, IsWithin, aimed}
use Rattle.visit_replay.specs.declared.conflicts.Located.TheVariants.{Bad, Idle, At}
use Rattle.visit_replay.proofs.TrailLaws.{trail_more, trail_stays}
use Rattle.visit_replay.proofs.differing.note_beside.Goals as goal

pub returns-in-Bad-clause-further : goal.returns-in-Bad-clause-further
returns-in-Bad-clause-further c =
    let visit = c.args.visit.now in
    let new = c.args.new.now in
    let event = c.index-as_slice-k.result in
    let is : event ≡ get_or visit.events c.args.k event = rw c.as_slice.ensures at c.index-as_slice-k.is in
    let aim = aimed c.args.aiming.now visit.page new in
    let aims : AimsAt new (aim event) (Bad c.in-Bad._kind) = rw c.in-Bad.is at c.in_ok-_kind.ensures.aims in
    trail_stays aim visit new c.args.k event c.requires.there is c.args.trail.now c.requires.so_far (ap place_of_aim aims)

pub returns-in-Idle-clause-further : goal.returns-in-Idle-clause-further
returns-in-Idle-clause-further c =
    let visit = c.args.visit.now in
    let new = c.args.new.now in
    let event = c.index-as_slice-k.result in
    let is : event ≡ get_or visit.events c.args.k event = rw c.as_slice.ensures at c.index-as_slice-k.is in
    let aim = aimed c.args.aiming.now visit.page new in
    let aims : AimsAt new (aim event) Idle = rw c.in-Idle.is at c.in_ok-_kind.ensures.aims in
    trail_stays aim visit new c.args.k event c.requires.there is c.args.trail.now c.requires.so_far (ap place_of_aim aims)

pub note-requires-clause-there : goal.note-requires-clause-there
note-requires-clause-there c =
    let aim = aimed c.args.aiming.now c.args.visit.now.page c.args.new.now in
    let aims : AimsAt c.args.new.now (aim c.index-as_slice-k.result) (At c.in-At.target c.in-At.button) = rw c.in-At.is at c.in_ok-_kind.ensures.aims in
    subst (λ p. c.in-At.target < nodes p) (sym c.requires.so_far.page) aims.0

pub note-requires-clause-button : goal.note-requires-clause-button
note-requires-clause-button c =
    let aim = aimed c.args.aiming.now c.args.visit.now.page c.args.new.now in
    let aims : AimsAt c.args.new.now (aim c.index-as_slice-k.result) (At c.in-At.target c.in-At.button) = rw c.in-At.is at c.in_ok-_kind.ensures.aims in
    subst (IsWithin c.in-At.button) (sym c.requires.so_far.page) aims.1

pub returns-clause-further : goal.returns-clause-further
returns-clause-further c =
    let visit = c.args.visit.now in
    let new = c.args.new.now in
    let event = c.index-as_slice-k.result in
    let is : event ≡ get_or visit.events c.args.k event = rw c.as_slice.ensures at c.index-as_slice-k.is in
    let aim = aimed c.args.aiming.now visit.page new in
    let aims : AimsAt new (aim event) (At c.in-At.target c.in-At.button) = rw c.in-At.is at c.in_ok-_kind.ensures.aims in
    trail_more aim visit new c.args.k event c.requires.there is c.in-At.target c.in-At.button c.args.trail.now c.note.new.self c.requires.so_far aims.2
    c.in_ok-note.ensures.deeds c.note.ensures.address c.note.ensures.page

use Rattle.std.proofs.Common.{◌∷◌, [], ◌++◌, None, sym}
use Rattle.std.proofs.lemmas.Result.{on_ok_weaker}
use Rattle.visit_replay.specs.Aim.{path_of, by_element}
use Rattle.visit_replay.specs.inside.Differing.{Selects}
use Rattle.visit_replay.specs.inside.OneEvent.{IsNodeOf}
use Rattle.visit_replay.specs.inside.TouchedFields.{HasTouched}
use Rattle.visit_replay.proofs.Straying.{never, strays_unled}
use Rattle.visit_replay.proofs.touched.Touched.note.Goals as goal

pub returns-in-Some : goal.returns-in-Some
returns-in-Some c =
    let old = c.args.old.now in
    let new = c.args.new.now in
    let event = c.args.event.now in
    let aim = by_element c.in-ByElement.field-0.fresh old new in
    let acts : IsNodeOf (aim event) new c.args.is = rw c.in-ByElement.is at c.requires.acts in
    on_ok_weaker c.note_at.result (λ taken before has.
    let had : HasTouched aim old new c.args.self.now before = rw c.in-ByElement.is at has in
    rw c.in-ByElement.is (taken aim before acts had)) c.note_at.ensures

pub returns-in-None : goal.returns-in-None
returns-in-None c = λ before has.
    let old = c.args.old.now in
    let new = c.args.new.now in
    let event = c.args.event.now in
    let aim = by_element c.in-ByElement.field-0.fresh old new in
    let had : HasTouched aim old new c.args.self.now before = rw c.in-ByElement.is at has in
    let selects : Selects old (path_of event) None = rw (c.path_of.ensures, c.in-None.is) at c.known_or_only.ensures in
    let here : HasTouched aim old new c.args.self.now (before ++ event ∷ []) = never aim old new c.args.self.now before event had (λ f g. strays_unled aim old f g event (sym selects.1)) in
    rw c.in-ByElement.is here

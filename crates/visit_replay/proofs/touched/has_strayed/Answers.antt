use Rattle.std.proofs.Common.{◌≡◌, All, ◌<◌, Some, true, sym, ap, ◌∙◌, rules, subst}
use Rattle.std.specs.List.{list_any}
use Rattle.page_tree.specs.Limits.{nodes}
use Rattle.page_tree.specs.Number.{place_numbered}
use Rattle.visit_replay.specs.Aim.{path_of, by_element, place_of_aim, is_submit}
use Rattle.visit_replay.specs.inside.Differing.{Selects}
use Rattle.visit_replay.specs.inside.OneEvent.{AimsAt}
use Rattle.visit_replay.specs.inside.TouchedFields.{HasTouched, strays_now}
use Rattle.visit_replay.specs.declared.conflicts.Located.TheVariants.{At}
use Rattle.visit_replay.specs.declared.touched.TouchedField.{TouchedField}
use Rattle.visit_replay.proofs.Straying.{submit_strays}
use Rattle.visit_replay.proofs.touched.has_strayed.Goals as goal

pub any_strays-requires-clause-within : goal.any_strays-requires-clause-within
any_strays-requires-clause-within c =
    let old = c.args.old.now in
    let new = c.args.new.now in
    let has : HasTouched (by_element c.in-ByElement.field-0.fresh old new) old new c.args.touched.now c.requires.touched.0 = rw c.in-ByElement.is at c.requires.touched.1 in
    subst (All (λ (field : TouchedField). (field.was < nodes old) × (field.is < nodes new))) (sym c.as_slice.ensures.value) has.within

pub returns-in-Some : goal.returns-in-Some
returns-in-Some c = λ before touched.
    let old = c.args.old.now in
    let new = c.args.new.now in
    let event = c.args.event.now in
    let fresh = c.in-ByElement.field-0.fresh in
    let aim = by_element fresh old new in
    let f = place_numbered c.in-Some.form old in
    let g = place_numbered c.in-At.target new in
    let had : HasTouched aim old new c.args.touched.now before = rw c.in-ByElement.is at touched in
    let selects : Selects old (path_of event) (Some c.in-Some.form) = rw (c.path_of.ensures, c.in-Some.is) at c.known_or_only.ensures in
    let located : AimsAt new (aim event) (At c.in-At.target c.in-At.button) = rw (c.in-ByElement.is, c.in-At.is) at c.requires.located in
    let submit : is_submit event ≡ true = search (rules, c.is_submit.ensures, c.if-not-is_submit.false) in
    rw c.in-ByElement.is (c.any_strays.ensures ∙ ap (list_any (strays_now old new f g)) c.as_slice.ensures.value ∙ sym (had.strays f g)
    ∙ sym (submit_strays fresh old new before event f g submit (sym selects.1) (ap place_of_aim located.2)))

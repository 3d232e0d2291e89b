use Rattle.std.proofs.Common.{refl, sym, ◌∙◌}
use Rattle.page_tree.proofs.RowLaws.{no_own}
use Rattle.page_tree.proofs.SameLines.{sides, like_texts, unlike, like_elements}
use Rattle.page_tree.proofs.table.NodeTable.same_line.Goals as goal

pub returns-then-not-same_spot : goal.returns-then-not-same_spot
returns-then-not-same_spot c = (λ h. cc, λ same. c.if-not-same_spot.ensures.1 (rw (c.as_slice.ensures.value, c.as_slice-2.ensures.value) (sides c.self.inside c.other.inside c.args.self.now c.args.other.now c.args.number c.self.view_is c.other.view_is c.requires.there c.requires.other_there same).0))

pub returns-then-not-same_text : goal.returns-then-not-same_text
returns-then-not-same_text c = (λ h. cc, λ same. c.if-not-same_text.ensures.1 (sides c.self.inside c.other.inside c.args.self.now c.args.other.now c.args.number c.self.view_is c.other.view_is c.requires.there c.requires.other_there same).1)

pub returns-in-None-None : goal.returns-in-None-None
returns-in-None-None c =
    let spot = rw (c.as_slice.ensures.value, c.as_slice-2.ensures.value) at (c.if-not-same_spot.ensures.0 refl) in
    let text = c.if-not-same_text.ensures.0 refl in
    let own = rw (c.as_slice-3.ensures.value, c.as_slice-4.ensures.value) at (sym c.in-None-None.is-0 ∙ c.own_row-own.ensures) in
    let other = rw (c.as_slice-5.ensures.value, c.as_slice-6.ensures.value) at (sym c.in-None-None.is-1 ∙ c.own_row-other_own.ensures) in
    (λ _. like_texts c.self.inside c.other.inside c.args.self.now c.args.other.now c.args.number c.self.view_is c.other.view_is c.requires.there c.requires.other_there spot text (no_own _ _ own) (no_own _ _ other), λ _. refl)

pub returns-in-None-Some : goal.returns-in-None-Some
returns-in-None-Some c =
    let own = rw (c.as_slice-3.ensures.value, c.as_slice-4.ensures.value) at (sym c.in-None-Some.is-0 ∙ c.own_row-own.ensures) in
    let other = rw (c.as_slice-5.ensures.value, c.as_slice-6.ensures.value) at (sym c.in-None-Some.is-1 ∙ c.own_row-other_own.ensures) in
    (λ h. cc, λ same. absurd (unlike c.self.inside c.other.inside c.args.self.now c.args.other.now c.args.number c.self.view_is c.other.view_is c.requires.there c.requires.other_there _ (no_own _ _ own) other same))

pub returns-in-Some-None : goal.returns-in-Some-None
returns-in-Some-None c =
    let own = rw (c.as_slice-3.ensures.value, c.as_slice-4.ensures.value) at (sym c.in-Some-None.is-0 ∙ c.own_row-own.ensures) in
    let other = rw (c.as_slice-5.ensures.value, c.as_slice-6.ensures.value) at (sym c.in-Some-None.is-1 ∙ c.own_row-other_own.ensures) in
    (λ h. cc, λ same. absurd (unlike c.other.inside c.self.inside c.args.other.now c.args.self.now c.args.number c.other.view_is c.self.view_is c.requires.other_there c.requires.there _ (no_own _ _ other) own (sym same)))

pub returns-in-Some-Some : goal.returns-in-Some-Some
returns-in-Some-Some c =
    let spot = rw (c.as_slice.ensures.value, c.as_slice-2.ensures.value) at (c.if-not-same_spot.ensures.0 refl) in
    let text = c.if-not-same_text.ensures.0 refl in
    let own = rw (c.as_slice-3.ensures.value, c.as_slice-4.ensures.value) at (sym c.in-Some-Some.is-0 ∙ c.own_row-own.ensures) in
    let other = rw (c.as_slice-5.ensures.value, c.as_slice-6.ensures.value) at (sym c.in-Some-Some.is-1 ∙ c.own_row-other_own.ensures) in
    let both = like_elements c.self.inside c.other.inside c.args.self.now c.args.other.now c.args.number c.self.view_is c.other.view_is c.requires.there c.requires.other_there _ _ spot text own other in
    (λ yes. both.0 (c.same_element.ensures.0 yes), λ same. c.same_element.ensures.1 (both.1 same))

use Rattle.std.proofs.Common.{refl}
use Rattle.page_tree.proofs.SameLines.{same_parts, same_own}
use Rattle.page_tree.proofs.table.same_element.Goals as goal

pub returns-then-not-same_but_place : goal.returns-then-not-same_but_place
returns-then-not-same_but_place c = (λ h. cc, λ same. c.if-not-same_but_place.ensures.1 (same_parts c.args.texts.now c.args.others.now c.args.own c.args.other same).0)

pub returns : goal.returns
returns c = (
  λ yes. same_own c.args.texts.now c.args.others.now c.args.own c.args.other (c.if-not-same_but_place.ensures.0 refl) (c.same_attributes.ensures.0 yes),
  λ same. c.same_attributes.ensures.1 (same_parts c.args.texts.now c.args.others.now c.args.own c.args.other same).1,
)

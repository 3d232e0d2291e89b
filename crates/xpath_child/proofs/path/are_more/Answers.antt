use Rattle.std.proofs.Common.{option_map, ◌≡◌, Option, Some, None, is_some, true, sym, ◌∙◌}
use Rattle.xpath_child.proofs.StepsCut.{more}
use Rattle.xpath_child.proofs.path.are_more.Goals as goal

some_mapped : {A B : Type 0} (f : A → B) (o : Option A) → is_some o ≡ true → is_some (option_map f o) ≡ true
some_mapped f None h = h
some_mapped f (Some x) h = h

pub returns-else-not-is_empty : goal.returns-else-not-is_empty
returns-else-not-is_empty c = λ yes. more c.args.steps.now (option_map (λ r. r.now) c.args.left) (some_mapped (λ r. r.now) c.args.left (sym c.is_some.ensures ∙ yes))

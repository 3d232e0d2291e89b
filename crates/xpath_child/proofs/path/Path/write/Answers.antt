use Rattle.std.proofs.Common.{sym, ap, ◌∙◌, IfOk, ◌≡◌, subst}
use Rattle.xpath_child.specs.Path.{path_text}
use Rattle.xpath_child.proofs.Sound.{path_sound}
use Rattle.xpath_child.proofs.path.Path.write.Goals as goal

pub returns : goal.returns
returns c = subst (λ t. IfOk c.to_text.result (λ text. text ≡ t)) (sym (path_sound c.self.inside.text c.self.invariant).1 ∙ ap path_text c.self.view_is) c.to_text.ensures

use Rattle.std.proofs.Common.{sym, ap, ◌∙◌, subst}
use Rattle.xpath_child.specs.Path.{IsPath, path_text}
use Rattle.xpath_child.proofs.Answered.{texts_tell}
use Rattle.xpath_child.proofs.Sound.{path_sound}
use Rattle.xpath_child.proofs.path.Path.same.Goals as goal

pub returns : goal.returns
returns c =
    let own = path_sound c.self.inside.text c.self.invariant in
    let others = path_sound c.other.inside.text c.other.invariant in
    texts_tell c.args.self.now c.args.other.now c.as_str.result.now c.as_str-2.result.now c.eq.result
    (subst IsPath c.self.view_is own.0) (subst IsPath c.other.view_is others.0)
    (ap path_text (sym c.self.view_is) ∙ own.1 ∙ sym c.as_str.ensures)
    (ap path_text (sym c.other.view_is) ∙ others.1 ∙ sym c.as_str-2.ensures) c.eq.ensures

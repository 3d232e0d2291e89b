use Rattle.std.proofs.Common.{sym, ap, ◌∙◌, subst}
use Rattle.xpath_child.specs.Path.{IsPath, path_text}
use Rattle.xpath_child.proofs.Answered.{text_tells}
use Rattle.xpath_child.proofs.Sound.{path_sound}
use Rattle.xpath_child.proofs.path.Path.is_of.Goals as goal

pub returns-clause-same : goal.returns-clause-same
returns-clause-same c =
    let own = path_sound c.self.inside.text c.self.invariant in
    (text_tells c.args.self.now c.as_str.result.now c.args.text.now c.eq.result (subst IsPath c.self.view_is own.0) (ap path_text (sym c.self.view_is) ∙ own.1 ∙ sym c.as_str.ensures) c.eq.ensures).0

pub returns-clause-read : goal.returns-clause-read
returns-clause-read c =
    let own = path_sound c.self.inside.text c.self.invariant in
    (text_tells c.args.self.now c.as_str.result.now c.args.text.now c.eq.result (subst IsPath c.self.view_is own.0) (ap path_text (sym c.self.view_is) ∙ own.1 ∙ sym c.as_str.ensures) c.eq.ensures).1

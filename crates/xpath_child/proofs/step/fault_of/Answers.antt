use Rattle.std.proofs.Common.{Some, None, ◌∙◌, ap, sym, lit<}
use Rattle.std.proofs.lemmas.Str.Pattern.{strip_prefix_char}
use Rattle.xpath_child.specs.Fault.{path_fault}
use Rattle.xpath_child.proofs.Answered.{no_slash}
use Rattle.xpath_child.proofs.step.fault_of.Goals as goal

pub returns-in-Some : goal.returns-in-Some
returns-in-Some c =
    let slash = strip_prefix_char 47 c.args.text.now (Some c.in-Some.rest) c.in-Some.ensures.cases (lit< tt) in
    c.fault_of_steps.ensures ∙ ap path_fault (sym slash)

pub returns-in-None : goal.returns-in-None
returns-in-None c = rw c.at.ensures (sym (no_slash c.args.text.now (strip_prefix_char 47 c.args.text.now None c.in-None.ensures.cases (lit< tt))))

use Rattle.std.proofs.Common.{Err, sym, ◌∙◌, ap}
use Rattle.xpath_child.specs.Fault.{path_fault, path_in}
use Rattle.xpath_child.proofs.Answered.{from_none, from_some, only, refused}
use Rattle.xpath_child.proofs.Sound.{path_sound}
use Rattle.xpath_child.proofs.path.Path.read.Goals as goal

pub returns-in-Some-clause-exact : goal.returns-in-Some-clause-exact
returns-in-Some-clause-exact c = from_some c.args.text.now c.in-Some.fault (sym c.fault_of.ensures ∙ c.in-Some.is)

pub returns-in-Some-clause-memory : goal.returns-in-Some-clause-memory
returns-in-Some-clause-memory c = (returns-in-Some-clause-exact c).0

pub returns-in-Some-clause-refused : goal.returns-in-Some-clause-refused
returns-in-Some-clause-refused c = refused c.args.text.now (Err c.in-Some.fault) (returns-in-Some-clause-exact c)

pub returns-in_ok-from_str-in-None-clause-exact : goal.returns-in_ok-from_str-in-None-clause-exact
returns-in_ok-from_str-in-None-clause-exact c =
    let same = c.in_ok-from_str-in-None.ensures in
    ap path_in (sym same) ∙ from_none c.in_ok-from_str-in-None.field-0 (ap path_fault same ∙ sym c.fault_of.ensures ∙ c.in-None.is)

pub returns-in_ok-from_str-in-None-clause-ok : goal.returns-in_ok-from_str-in-None-clause-ok
returns-in_ok-from_str-in-None-clause-ok c =
    let same = c.in_ok-from_str-in-None.ensures in
    let sound = path_sound c.in_ok-from_str-in-None.field-0 (ap path_fault same ∙ sym c.fault_of.ensures ∙ c.in-None.is) in
    (sound.0, sound.1 ∙ same)

pub returns-in_ok-from_str-in-None-clause-only : goal.returns-in_ok-from_str-in-None-clause-only
returns-in_ok-from_str-in-None-clause-only c = λ other. only c.args.text.now _ other (returns-in_ok-from_str-in-None-clause-exact c)

use Rattle.std.proofs.Common.{◌≡◌, get_or, true, false, [], Some, option_map, sym, ◌∙◌, ap, arith}
use Rattle.std.specs.BTreeMap.{get_by_text}
use Rattle.std.proofs.lemmas.List.{get_or_default}
use Rattle.xpath_child.specs.Path.{path_text}
use Rattle.site_hooks.proofs.watch_list.is_among.Goals as goal

pub returns-else-is_of-clause-no : goal.returns-else-is_of-clause-no
returns-else-is_of-clause-no c = λ is number less same.
    let paths = c.args.paths.now in
    let known : Some c.in-Some.number.now ≡ Some number = c.in-Some.ensures.value ∙ ap (get_by_text c.args.numbers.now) (sym same) ∙ c.requires.numbers number less in
    let number_is : c.in-Some.number.now ≡ number = cc in
    let text_is = ap path_text (c.index-paths-number.is ∙ get_or_default paths c.in-Some.number.now c.index-paths-number.result [] c.if-number-paths.true) ∙ ap (λ n. path_text (get_or paths n [])) number_is ∙ same in
    let clash : true ≡ false = sym (c.is_of.ensures.same.1 text_is) ∙ is in cc

pub returns-in_default-clause-no : goal.returns-in_default-clause-no
returns-in_default-clause-no c = λ is number less same.
    let known : Some c.in-Some.number.now ≡ Some number = c.in-Some.ensures.value ∙ ap (get_by_text c.args.numbers.now) (sym same) ∙ c.requires.numbers number less in
    let number_is : c.in-Some.number.now ≡ number = cc in
    omega (arith, less, number_is, c.if-number-paths.false)

pub returns-in_default-2-clause-no : goal.returns-in_default-2-clause-no
returns-in_default-2-clause-no c = λ is number less same.
    let none = sym (ap (option_map (λ n. n.now)) c.in_default.is) ∙ c.get.ensures.value ∙ ap (get_by_text c.args.numbers.now) (sym same) ∙ c.requires.numbers number less in
    cc

use Rattle.std.proofs.Common.{◌==◌, ◌||◌, rules, tests, sym, ap, ◌∙◌}
use Rattle.std.proofs.lemmas.Iterator.{YieldsList-from_slice}
use Rattle.std.proofs.lemmas.Iterator.Search.{position_from_yields_List}
use Rattle.xpath_child.proofs.Matched.{test_at, test_cut, test_whole}
use Rattle.xpath_child.proofs.step.test_of.Goals as goal

pub returns-in-None : goal.returns-in-None
returns-in-None c =
    let bytes = c.as_bytes-bytes.result.now in
    let told = position_from_yields_List (λ b. b == 47 || b == 91) _ _ c.position.result c.position.ensures.ran (YieldsList-from_slice bytes cc) (λ x b q k. search (rules, tests)) in
    test_whole bytes (sym c.in-None.is ∙ told) ∙ ap test_at c.as_bytes-bytes.ensures.value

pub returns-in-Some : goal.returns-in-Some
returns-in-Some c =
    let bytes = c.as_bytes-bytes.result.now in
    let told = position_from_yields_List (λ b. b == 47 || b == 91) _ _ c.position.result c.position.ensures.ran (YieldsList-from_slice bytes cc) (λ x b q k. search (rules, tests)) in
    test_cut bytes c.in-Some.end (sym c.in-Some.is ∙ told) ∙ ap test_at c.as_bytes-bytes.ensures.value

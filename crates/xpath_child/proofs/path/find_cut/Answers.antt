use Rattle.std.proofs.Common.{true, cond, ◌&&◌, option_map, ◌≡◌, refl, ap, sym, ◌∙◌, [], fold}
use Rattle.page_tree.specs.Number.{place_numbered}
use Rattle.page_tree.specs.Look.{name_at}
use Rattle.page_tree.proofs.NodesUnder.{root_numbered}
use Rattle.xpath_child.specs.Reaches.{matches, is_nth}
use Rattle.xpath_child.specs.Targets.{places_below, place_found}
use Rattle.xpath_child.specs.declared.path.Target.TheVariants.{Missing}
use Rattle.xpath_child.specs.inside.Search.{steps_left, step_of, note}
use Rattle.xpath_child.proofs.Steps.{found_target}
use Rattle.xpath_child.proofs.path.find_cut.Goals as goal

pub returns-then-picks_first : goal.returns-then-picks_first
returns-then-picks_first c =
    let page = c.args.page.now in
    let left = option_map (λ r. r.now) c.args.left in
    let step = step_of c.in-Some.first.now in
    let rest = steps_left c.in-Some.others.now left in
    let root = place_numbered 0 page in
    let fits : matches step.test (name_at root page) ≡ true = ap (matches step.test) (sym c.name_of.ensures) ∙ sym c.is_match.ensures ∙ c.if-is_match.true in
    let picks : is_nth step.index 0 ≡ true = sym c.picks_first.ensures ∙ c.if-picks_first.true in
    let both : (matches step.test (name_at root page) && is_nth step.index 0) ≡ true = rw (fits, picks) refl in
    let found = place_found page c.visit_child.new.found in
    found_target page step rest (steps_left c.args.steps.now left) root found (ap (λ cut. steps_left cut left) c.in-Some.ensures.cases.0) (root_numbered page)
    (c.visit_child.ensures ∙ ap (λ b. fold note Missing (cond b (places_below page rest root) [])) (sym both))

use Rattle.std.proofs.Common.{◌≡◌, ◌∙◌, not, subst, sym, ap₂}
use Rattle.std.specs.Str.{bytes_eq}
use Rattle.std.proofs.lemmas.List.Elements.{All-push}
use Rattle.page_looks.specs.Sending.{without_fresh}
use Rattle.visit_replay.specs.declared.comparisons.Comparison.{Comparison}
use Rattle.visit_replay.specs.inside.Differing.{AreCompared}
use Rattle.visit_replay.proofs.comparisons.Comparisons.compare.Goals as goal

pub returns-clause-known : goal.returns-clause-known
returns-clause-known c =
    let fresh = c.args.fresh.now in
    let Told : Comparison → Type 0 = λ one. one.apart ≡ not (bytes_eq (without_fresh fresh one.was) (without_fresh fresh one.is)) in
    let told : c.in_ok-apart.apart ≡ not (bytes_eq (without_fresh fresh c.in_ok-before.before) (without_fresh fresh c.in_ok-now.now)) =
    c.in_ok-apart.ensures ∙ ap₂ (λ a b. not (bytes_eq (without_fresh fresh a) (without_fresh fresh b))) (sym c.in_ok-before.ensures) (sym c.in_ok-now.ensures) in
    subst (AreCompared fresh) (sym c.in_ok-push.ensures.items) (All-push Told c.forget_if_full.new.self.all.items _ (c.forget_if_full.ensures fresh c.requires) told)

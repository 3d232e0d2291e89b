use Rattle.std.proofs.Common.{◌≡◌, ◌==◌, ◌<◌, ℕ, List, IfOk, map, option_map, codes, sym, ap, ap₂, subst, ◌∙◌}
use Rattle.std.specs.Str.{bytes_eq}
use Rattle.page_tree.specs.Limits.{nodes}
use Rattle.page_tree.specs.Look.{attribute_at}
use Rattle.page_tree.specs.Number.{place_numbered}
use Rattle.visit_replay.specs.Aim.{above, hidden_named, twin_in}
use Rattle.visit_replay.specs.inside.OneEvent.{placed}
use Rattle.visit_replay.proofs.HiddenTwins.{hidden_within, placed_twin, twin_within}
use Rattle.visit_replay.proofs.hidden_inputs.hidden_twin.Goals as goal

pub returns-clause-place : goal.returns-clause-place
returns-clause-place c =
    let old = c.args.beside.now.old in
    let new = c.args.beside.now.new in
    let p = place_numbered c.args.number old in
    let q = place_numbered c.args.under new in
    let olds = c.in_ok-olds.olds.items in
    let news = c.in_ok-news.news.items in
    let name = attribute_at p (codes "name") old in
    let own = option_map (λ n. n.now) c.attribute_of-name.result in
    let named : own ≡ name = c.attribute_of-name.ensures ∙ ap (λ t. attribute_at (place_numbered c.args.number t) (codes "name") t) c.recorded_page.ensures in
    let were : map (λ n. place_numbered n old) olds ≡ hidden_named name (above p) old =
    ap (map (λ n. place_numbered n old)) c.in_ok-olds.ensures
    ∙ c.inputs_under-were.ensures old (c.in_ok-look_under.ensures.known old c.requires.known.1) own ∙ ap₂ (λ own at. hidden_named own at old) named c.requires.parent in
    let are : map (λ n. place_numbered n new) news ≡ hidden_named name q new =
    ap (map (λ n. place_numbered n new)) c.in_ok-news.ensures
    ∙ c.inputs_under-are.ensures new (c.in_ok-look_under-2.ensures.known new c.requires.known.2) own ∙ ap (λ own. hidden_named own q new) named in
    ap (placed new) (c.twin_in.ensures ∙ ap₂ (λ (xs ys : List ℕ). twin_in (λ n. c.args.number == n) xs ys) c.as_slice.ensures.value c.as_slice-2.ensures.value)
    ∙ placed_twin old new olds news c.args.number c.requires.there (hidden_within old name (above p) olds were)
    ∙ ap₂ (λ (xs ys : List (List ℕ)). twin_in (bytes_eq p) xs ys) were are

pub returns-clause-within : goal.returns-clause-within
returns-clause-within c =
    let new = c.args.beside.now.new in
    let news = c.in_ok-news.news.items in
    let own = option_map (λ n. n.now) c.attribute_of-name.result in
    let is = c.twin_in.ensures ∙ ap₂ (λ (xs ys : List ℕ). twin_in (λ n. c.args.number == n) xs ys) c.as_slice.ensures.value c.as_slice-2.ensures.value in
    let are : map (λ n. place_numbered n new) news ≡ hidden_named own (place_numbered c.args.under new) new =
    ap (map (λ n. place_numbered n new)) c.in_ok-news.ensures
    ∙ c.inputs_under-are.ensures new (c.in_ok-look_under-2.ensures.known new c.requires.known.2) own in
    subst (λ r. IfOk r (λ n. n < nodes new)) (sym is)
    (twin_within (λ n. c.args.number == n) c.in_ok-olds.olds.items news (nodes new) (hidden_within new own _ news are))

pub returns-clause-known : goal.returns-clause-known
returns-clause-known c =
    let old = c.args.beside.now.old in
    let new = c.args.beside.now.new in
    (c.requires.known.0, c.in_ok-look_under.ensures.known old c.requires.known.1, c.in_ok-look_under-2.ensures.known new c.requires.known.2)

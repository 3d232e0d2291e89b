use Rattle.std.proofs.Common.{◌≡◌, Some, IfOk, option_map, ap, subst, ◌∙◌}
use Rattle.page_tree.specs.Number.{place_numbered}
use Rattle.visit_replay.specs.Aim.{aim_of, place_of_aim}
use Rattle.visit_replay.proofs.event_places.place_of_event.Goals as goal

pub returns-in_ok-beside-in-Some-clause-place : goal.returns-in_ok-beside-in-Some-clause-place
returns-in_ok-beside-in-Some-clause-place c =
    let names : Some c.in-Some.fresh.now ≡ c.args.finding.now = rw c.in-Some.is at c.names.ensures in
    let given : Some c.in_ok-beside-in-Some.beside.fresh ≡ c.args.finding.now =
    ap (λ b. Some b.fresh) c.in_ok-beside-in-Some.ensures.both ∙ ap (λ p. Some p.1) c.in_ok-page-in-Some.ensures ∙ names in
    subst (λ fresh. IfOk c.place_by-in-Some.result (λ number. option_map (λ n. place_numbered n c.args.repaired.now) number
    ≡ place_of_aim (aim_of fresh c.args.recorded.now c.args.repaired.now c.args.event.now))) given c.place_by-in-Some.ensures.place

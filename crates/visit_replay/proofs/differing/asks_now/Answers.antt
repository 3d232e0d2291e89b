use Rattle.std.proofs.Common.{◌≡◌, ◌<◌, length, slice_get, subst, sym, ap, ◌∙◌, Some, arith}
use Rattle.page_tree.specs.Limits.{nodes}
use Rattle.visit_replay.specs.Aim.{by_element, aim_of, place_of_aim}
use Rattle.visit_replay.specs.Difference.{asks_now, passing_over}
use Rattle.visit_replay.specs.inside.OneEvent.{AimsAt, IsWithin}
use Rattle.visit_replay.specs.inside.Trails.{IsTrailOf}
use Rattle.visit_replay.specs.declared.conflicts.Located.TheVariants.{Bad, Idle, At}
use Rattle.visit_replay.proofs.Asking.{asks_nowhere, asks_where, beside_looks, stands_in}
use Rattle.visit_replay.proofs.TrailLaws.{last_made}
use Rattle.visit_replay.proofs.differing.asks_now.Goals as goal

pub returns-in-Bad-clause-asks : goal.returns-in-Bad-clause-asks
returns-in-Bad-clause-asks c =
    let visit = c.args.visit.now in
    let event = c.index-events-k.result in
    let below : c.args.k < length c.as_slice-events.result.now = omega arith in
    let at : slice_get visit.events c.args.k ≡ Some event = stands_in visit c.as_slice-events.result.now c.args.k event c.as_slice-events.ensures below c.index-events-k.is in
    let aims : AimsAt c.in_ok-beside.beside.new (passing_over c.in_ok-beside.beside.old c.in_ok-beside.beside.new event) (Bad c.in-Bad._kind) = rw c.in-Bad.is at c.passing_over.ensures in
    let here = subst (λ b. AimsAt b.new (passing_over b.old b.new event) (Bad c.in-Bad._kind)) c.in_ok-beside.ensures.both aims in
    asks_nowhere c.args.page.now.1 visit c.args.page.now.0 c.args.k event at (ap place_of_aim here)

pub returns-in-Idle-clause-asks : goal.returns-in-Idle-clause-asks
returns-in-Idle-clause-asks c =
    let visit = c.args.visit.now in
    let event = c.index-events-k.result in
    let below : c.args.k < length c.as_slice-events.result.now = omega arith in
    let at : slice_get visit.events c.args.k ≡ Some event = stands_in visit c.as_slice-events.result.now c.args.k event c.as_slice-events.ensures below c.index-events-k.is in
    let aims : AimsAt c.in_ok-beside.beside.new (passing_over c.in_ok-beside.beside.old c.in_ok-beside.beside.new event) Idle = rw c.in-Idle.is at c.passing_over.ensures in
    let here = subst (λ b. AimsAt b.new (passing_over b.old b.new event) Idle) c.in_ok-beside.ensures.both aims in
    asks_nowhere c.args.page.now.1 visit c.args.page.now.0 c.args.k event at (ap place_of_aim here)

pub note-requires-clause-there : goal.note-requires-clause-there
note-requires-clause-there c =
    let visit = c.args.visit.now in
    let event = c.index-events-k.result in
    let new = c.page-new.result.now in
    let there : new ≡ c.args.page.now.0 = c.page-new.ensures ∙ ap (λ p. p.0) c.in_ok-beside.ensures.page in
    let pair : c.in_ok-beside.beside ≡ beside_looks visit.page (new, c.args.page.now.1) = c.in_ok-beside.ensures.both ∙ ap (λ n. beside_looks visit.page (n, c.args.page.now.1)) (sym there) in
    let aims : AimsAt c.in_ok-beside.beside.new (passing_over c.in_ok-beside.beside.old c.in_ok-beside.beside.new event) (At c.in-At.target c.in-At.button) = rw c.in-At.is at c.passing_over.ensures in
    let here = subst (λ b. AimsAt b.new (passing_over b.old b.new event) (At c.in-At.target c.in-At.button)) pair aims in
    subst (λ p. c.in-At.target < nodes p) (sym c.in_ok-trail.ensures.trail.page) here.0

pub note-requires-clause-button : goal.note-requires-clause-button
note-requires-clause-button c =
    let visit = c.args.visit.now in
    let event = c.index-events-k.result in
    let new = c.page-new.result.now in
    let there : new ≡ c.args.page.now.0 = c.page-new.ensures ∙ ap (λ p. p.0) c.in_ok-beside.ensures.page in
    let pair : c.in_ok-beside.beside ≡ beside_looks visit.page (new, c.args.page.now.1) = c.in_ok-beside.ensures.both ∙ ap (λ n. beside_looks visit.page (n, c.args.page.now.1)) (sym there) in
    let aims : AimsAt c.in_ok-beside.beside.new (passing_over c.in_ok-beside.beside.old c.in_ok-beside.beside.new event) (At c.in-At.target c.in-At.button) = rw c.in-At.is at c.passing_over.ensures in
    let here = subst (λ b. AimsAt b.new (passing_over b.old b.new event) (At c.in-At.target c.in-At.button)) pair aims in
    subst (IsWithin c.in-At.button) (sym c.in_ok-trail.ensures.trail.page) here.1

pub returns-clause-asks : goal.returns-clause-asks
returns-clause-asks c =
    let visit = c.args.visit.now in
    let fresh = c.args.page.now.1 in
    let event = c.index-events-k.result in
    let new = c.page-new.result.now in
    let there : new ≡ c.args.page.now.0 = c.page-new.ensures ∙ ap (λ p. p.0) c.in_ok-beside.ensures.page in
    let below : c.args.k < length c.as_slice-events.result.now = omega arith in
    let at : slice_get visit.events c.args.k ≡ Some event = stands_in visit c.as_slice-events.result.now c.args.k event c.as_slice-events.ensures below c.index-events-k.is in
    let pair : c.in_ok-beside.beside ≡ beside_looks visit.page (new, fresh) = c.in_ok-beside.ensures.both ∙ ap (λ n. beside_looks visit.page (n, fresh)) (sym there) in
    let aims : AimsAt c.in_ok-beside.beside.new (passing_over c.in_ok-beside.beside.old c.in_ok-beside.beside.new event) (At c.in-At.target c.in-At.button) = rw c.in-At.is at c.passing_over.ensures in
    let here = subst (λ b. AimsAt b.new (passing_over b.old b.new event) (At c.in-At.target c.in-At.button)) pair aims in
    let walked : IsTrailOf (by_element fresh visit.page new) visit new c.args.k c.in_ok-trail.trail =
    subst (λ b. IsTrailOf (aim_of (Some b.fresh) visit.page new) visit new c.args.k c.in_ok-trail.trail) pair c.in_ok-trail.ensures.trail in
    c.in_ok-single.ensures
    ∙ last_made (by_element fresh visit.page new) visit new c.args.k event c.in-At.target c.in-At.button c.in_ok-trail.trail c.note.new.self walked
    c.in_ok-note.ensures.deeds c.note.ensures.address c.note.ensures.page
    ∙ asks_where fresh visit new c.args.k event c.in-At.target c.in-At.button at here.2
    ∙ ap (λ page. asks_now fresh visit page c.args.k) there

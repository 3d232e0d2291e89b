use Rattle.std.proofs.Common.{◌≡◌, true, false, if◌then◌else◌, Some, None, ap, subst, sym, refl, ◌∙◌}
use Rattle.visit_replay.specs.Difference.{are_alike}
use Rattle.visit_replay.specs.inside.FirstDeeds.{first_asked}
use Rattle.visit_replay.specs.inside.Tellings.{told_request}
use Rattle.visit_replay.specs.inside.Trails.{asked_at}
use Rattle.visit_replay.proofs.FirstAsked.{other_is}
use Rattle.visit_replay.proofs.differing.mark_of.Goals as goal

pub returns-in_default-clause-told : goal.returns-in_default-clause-told
returns-in_default-clause-told c =
    let own = c.args.own.now in
    let is = told_request c.args.now.now in
    let none : None ≡ first_asked own c.number.result = rw c.in_default.is at c.in_ok-place.ensures.first in
    sym (other_is c.args.was.now.names.now own is None None (ap (first_asked own) (sym c.number.ensures) ∙ sym none) refl)

pub returns-in_default-told-clause-told : goal.returns-in_default-told-clause-told
returns-in_default-told-clause-told c =
    let own = c.args.own.now in
    let is = told_request c.args.now.now in
    let place : Some c.in-Some.place ≡ first_asked own c.number.result = rw c.in-Some.is at c.in_ok-place.ensures.first in
    let none : None ≡ asked_at own c.in-Some.place = rw c.in_default-told.is at c.told.ensures.told in
    sym (other_is c.args.was.now.names.now own is (Some c.in-Some.place) None (ap (first_asked own) (sym c.number.ensures) ∙ sym place) (sym none))

pub returns-then-branch-clause-told : goal.returns-then-branch-clause-told
returns-then-branch-clause-told c =
    let own = c.args.own.now in
    let fresh = c.args.was.now.names.now in
    let is = told_request c.args.now.now in
    let was = told_request c.in-Some-told.before in
    let place : Some c.in-Some.place ≡ first_asked own c.number.result = rw c.in-Some.is at c.in_ok-place.ensures.first in
    let asked : Some was ≡ asked_at own c.in-Some.place = rw c.in-Some-told.is at c.told.ensures.told in
    let names = ap (λ n. n.now) c.go_to.ensures.names in
    let alike : are_alike fresh was is ≡ true = subst (λ n. are_alike n was is ≡ true) names (sym c.in_ok-is_alike.ensures.alike ∙ c.if-branch.true) in
    sym (other_is fresh own is (Some c.in-Some.place) (Some was) (ap (first_asked own) (sym c.number.ensures) ∙ sym place) (sym asked)
    ∙ ap (λ b. if b then None else Some was) alike)

pub returns-clause-told : goal.returns-clause-told
returns-clause-told c =
    let own = c.args.own.now in
    let fresh = c.args.was.now.names.now in
    let is = told_request c.args.now.now in
    let was = told_request c.in-Some-told.before in
    let place : Some c.in-Some.place ≡ first_asked own c.number.result = rw c.in-Some.is at c.in_ok-place.ensures.first in
    let asked : Some was ≡ asked_at own c.in-Some.place = rw c.in-Some-told.is at c.told.ensures.told in
    let names = ap (λ n. n.now) c.go_to.ensures.names in
    let alike : are_alike fresh was is ≡ false = subst (λ n. are_alike n was is ≡ false) names (sym c.in_ok-is_alike.ensures.alike ∙ c.if-branch.false) in
    ap (asked_at own) c.in_ok-mark.ensures ∙ sym asked
    ∙ sym (other_is fresh own is (Some c.in-Some.place) (Some was) (ap (first_asked own) (sym c.number.ensures) ∙ sym place) (sym asked)
    ∙ ap (λ b. if b then None else Some was) alike)

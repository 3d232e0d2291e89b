use Rattle.std.proofs.Common.{◌≡◌, Bool, true, false, not, refl, ap, sym, ◌∙◌, rules}
use Rattle.visit_replay.proofs.ApartForms.{forms_apart, got_alike, posted_alike}
use Rattle.visit_replay.proofs.differing.are_submits_alike.Goals as goal

twice : (b : Bool) → not (not b) ≡ b
twice true = refl
twice false = refl

-- what they send differs
pub returns-then-not-branch-clause-alike : goal.returns-then-not-branch-clause-alike
returns-then-not-branch-clause-alike c =
    let fresh = c.args.fresh.now in
    sym (forms_apart fresh c.args.was.now c.args.is.now (c.in_ok-are_pairs_alike.ensures.apart c.if-not-branch.true fresh c.requires.was c.requires.is))

-- both are posted
pub returns-then-was-clause-alike : goal.returns-then-was-clause-alike
returns-then-was-clause-alike c =
    let fresh = c.args.fresh.now in
    let was = c.args.was.now in
    let is = c.args.is.now in
    let one : was.post ≡ is.post = search (rules, c.if-was-is.false) in
    let sent = c.in_ok-are_pairs_alike.ensures.alike c.if-not-branch.false fresh c.requires.was c.requires.is in
    ap not c.in_ok-apart.ensures.apart ∙ twice _ ∙ posted_alike fresh was is c.if-was.true (sym one ∙ c.if-was.true) sent

-- none is
pub returns-clause-alike : goal.returns-clause-alike
returns-clause-alike c =
    let fresh = c.args.fresh.now in
    let was = c.args.was.now in
    let is = c.args.is.now in
    let one : was.post ≡ is.post = search (rules, c.if-was-is.false) in
    let sent = c.in_ok-are_pairs_alike.ensures.alike c.if-not-branch.false fresh c.requires.was c.requires.is in
    c.goes_with.ensures ∙ got_alike fresh was is _ _ c.if-was.false (sym one ∙ c.if-was.false) refl refl sent

use Rattle.std.proofs.Common.{◌≡◌, ◌+◌, ◌==◌, ℕ, if◌then◌else◌, Some, get_or, length, subst, sym, ap, ◌∙◌, arith, rules}
use Rattle.std.specs.BTreeMap.{get}
use Rattle.std.specs.Ordering.{nat_cmp}
use Rattle.std.proofs.lemmas.Option.{slice_get-get_or}
use Rattle.visit_replay.proofs.Families.{IsOnItsWay, goes_on, same_lists, all_followed, behind}
use Rattle.visit_replay.proofs.Places.{some_there, written_back}
use Rattle.visit_replay.proofs.following.follow_parents.Goals as goal

pub loop-k-preserved : goal.loop-k-preserved
loop-k-preserved c =
    let finding = c.args.finding.now in
    let visits = c.args.visits.now in
    let own = c.args.outcomes.items in
    let k = c.loop-k.k in
    let outcomes = c.as_mut_slice.result.now in
    let asked = c.as_mut_slice-in-loop-k.result.now in
    let value : outcomes ≡ c.loop-k.outcomes.items = c.as_mut_slice.ensures.value in
    let asked_value : asked ≡ c.loop-k.asked.items = c.as_mut_slice-in-loop-k.ensures.value in
    let with_asked = subst (IsOnItsWay finding visits own k c.loop-k.outcomes.items (get nat_cmp c.loop-k.places)) (sym asked_value) c.loop-k.invariant in
    let way = subst (λ them. IsOnItsWay finding visits own k them (get nat_cmp c.loop-k.places) asked) (sym value) with_asked in
    let new = c.settle.new.outcomes in
    let visit = get_or visits k c.index-visits-k.result in
    let at = slice_get-get_or visits k c.index-visits-k.result (omega (arith, c.loop-k-test.true)) in
    let (mine, given) = some_there outcomes k (omega (arith, c.loop-k-test.true, way.count)) in
    let settled = c.in_ok-settle.ensures.settled (behind finding visits own k) visit mine way.stands at given in
    let back = written_back new c.loop-k.outcomes.items c.loop-k.outcomes.len (omega (arith, c.loop-k.outcomes.ok)) (c.settle.auto.outcomes ∙ ap length value) in
    let asked_back = written_back c.settle.new.asked c.loop-k.asked.items c.loop-k.asked.len (omega (arith, c.loop-k.asked.ok)) (c.settle.auto.asked ∙ ap length asked_value) in
    let put : (number : ℕ) → get nat_cmp c.insert.new.self number ≡ (if visit.number == number then Some k else get nat_cmp c.loop-k.places number) = λ number. search (rules, c.in_ok-insert.ensures.updates.0 number) in
    let next = goes_on finding visits own k outcomes (get nat_cmp c.loop-k.places) asked way visit mine at given
    new (get nat_cmp c.insert.new.self) c.settle.new.asked c.settle.auto.outcomes c.in_ok-settle.ensures.others settled put c.settle.auto.asked c.in_ok-settle.ensures.known in
    same_lists finding visits own (k + 1) (get nat_cmp c.insert.new.self) _ new _ c.settle.new.asked back asked_back next

pub returns : goal.returns
returns c =
    all_followed c.args.finding.now c.args.visits.now c.args.outcomes.items c.loop-k.outcomes.items (get nat_cmp c.loop-k.places) c.loop-k.asked.items c.loop-k.k c.loop-k.invariant
    (omega (arith, c.loop-k-test.false, c.loop-k.invariant.few))

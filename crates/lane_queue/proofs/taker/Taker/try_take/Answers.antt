use Rattle.std.proofs.Common.{◌≡◌, get_or, ◌∙◌, arith}
use Rattle.std.proofs.lemmas.List.{get_or_default}
use Rattle.lane_queue.proofs.Counts.{took, unended}
use Rattle.lane_queue.proofs.taker.Taker.try_take.Goals as goal

pub invariant_of-self-2 : goal.invariant_of-self-2
invariant_of-self-2 g c =
    let before = c.self.inside.counts.items in
    let count : c.index_mut.result.now ≡ get_or before c.in-Some.item.lane 0 = c.index_mut.ensures.value
    ∙ get_or_default before c.in-Some.item.lane c.index_mut.result.now 0 (omega (arith, c.in-Some.ensures.answer.lane, c.self.invariant.long)) in
    rw count (took c.self.inside.pass c.pop.new.pass before c.self.inside.running _ c.in-Some.item c.self.invariant c.in-Some.ensures.answer c.in-Some.ensures.pass.2
    (grind (arith, c.from.ensures)))

pub returns-in_default-clause-answer : goal.returns-in_default-clause-answer
returns-in_default-clause-answer g c =
    let answer = c.in_default.ensures.answer in
    rw (← c.self.view_is) (unended _ _ _ c.self.invariant (λ none. omega (arith, none)), answer.0, answer.1)

use Rattle.std.proofs.Common.{◌+◌, length, count_by, take, if◌then◌else◌, sym, ap, ◌∙◌, arith}
use Rattle.std.proofs.lemmas.List.{take_all, length-take}
use Rattle.std.proofs.lemmas.List.Sums.{count_by-le-length}
use Rattle.conflict_desk.specs.Book.{standing_in}
use Rattle.conflict_desk.specs.declared.decided.Standing.{Standing}
use Rattle.conflict_desk.specs.declared.docket.Case.{Case}
use Rattle.review_state.specs.Counts.{count_in, same_standing}
use Rattle.review_state.proofs.Steps.{there_is, counted}
use Rattle.review_state.proofs.counts.counts_of.Goals as goal

pub one_more-counts-requires : goal.one_more-counts-requires
one_more-counts-requires c = λ other.
    let cases = c.args.docket.now.cases in
    let p = λ (case : Case). same_standing (standing_in c.args.docket.now case) other in
    omega (
      arith,
      c.loop-place.invariant other,
      count_by-le-length p (take c.loop-place.place cases),
      length-take c.loop-place.place cases,
    )

pub loop-place-preserved : goal.loop-place-preserved
loop-place-preserved c = λ standing.
    let cases = c.args.docket.now.cases in
    let place = c.loop-place.place in
    let p = λ (case : Case). same_standing (standing_in c.args.docket.now case) standing in
    let there = there_is cases place (omega (arith, ap length c.cases-place-end.ensures.cases)) in
    c.one_more-counts.ensures standing
    ∙ ap (λ (s : Standing). count_in c.loop-place.counts standing + (if same_standing s standing then 1 else 0))
    (c.standing_at.ensures there.0 there.1)
    ∙ ap (λ n. n + (if p there.0 then 1 else 0)) (c.loop-place.invariant standing)
    ∙ sym (counted p cases place there.0 there.1)

pub returns : goal.returns
returns c = λ standing.
    c.loop-place.invariant standing
    ∙ ap (count_by (λ (case : Case). same_standing (standing_in c.args.docket.now case) standing))
    (take_all c.loop-place.place c.args.docket.now.cases (omega (arith, ap length c.cases-place-end.ensures.cases)))

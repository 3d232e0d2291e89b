use Rattle.std.proofs.Common.{◌∙◌}
use Rattle.visit_replay.proofs.TellLaws.{marks_at, marks_behind}
use Rattle.visit_replay.proofs.telling_former.FormerTelling.advance.Goals as goal

pub invariant_of-self-in-Some-first : goal.invariant_of-self-in-Some-first
invariant_of-self-in-Some-first c =
    let inside = c.self.inside in
    let before = c.go_to.ensures.before in (
      before.on.wide,
      c.go_to.ensures.nodes ∙ c.self.invariant.1,
      marks_at inside.own c.in-Some-Some.own c.in-Some.first.now inside.marks.now c.in-Some.rest.now inside.board c.go_to.new.self inside.mark c.in-Some-Some.place c.in-Some-Some.is-0 c.in-Some.ensures.cases.0
          c.self.invariant.2 before,
    )

pub invariant_of-self-in_default-2 : goal.invariant_of-self-in_default-2
invariant_of-self-in_default-2 c =
    let inside = c.self.inside in (
      c.self.invariant.0,
      c.self.invariant.1,
      marks_behind inside.own c.in-Some.first.now inside.marks.now c.in-Some.rest.now inside.board inside.mark c.in-Some.ensures.cases.0 c.self.invariant.2,
    )

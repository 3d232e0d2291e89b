use Rattle.std.proofs.Common.{rules, ◌+◌, length, [], Some, option_map, sym, ◌∙◌, ap, arith}
use Rattle.std.specs.Option.{option_map_or}
use Rattle.xpath_child.specs.Fault.{first_step_fault, written_steps}
use Rattle.xpath_child.proofs.Cut.{cut_room, fault_here, fault_behind, too_many}
use Rattle.xpath_child.proofs.step.fault_of_steps.Goals as goal

pub returns-then-is_some : goal.returns-then-is_some
returns-then-is_some c =
    let own = c.fault_of_step-fault.result in
    fault_here c.loop-before.left.now c.cut.result.0.now (option_map (λ r. r.now) c.cut.result.1) c.cut.ensures.before c.cut.ensures.after c.loop-before._before c.loop-before.start (omega arith) _ own
    c.loop-before.invariant.fault c.fault_of_step-fault.ensures (sym c.is_some.ensures ∙ c.if-is_some.true)

pub returns-in_default : goal.returns-in_default
returns-in_default c =
    let start = c.loop-before.start in
    let first = c.cut.result.0.now in
    let own = c.fault_of_step-fault.result in
    ap (λ o. first_step_fault (c.loop-before._before + 1) (start + (length first + 1)) (option_map_or written_steps (option_map (λ r. r.now) o) [])) (sym c.in_default.is)
    ∙ fault_behind c.loop-before.left.now first (option_map (λ r. r.now) c.cut.result.1) c.cut.ensures.before c.cut.ensures.after c.loop-before._before start (omega arith) _ own
    c.loop-before.invariant.fault c.fault_of_step-fault.ensures (sym c.is_some.ensures ∙ c.if-is_some.false)

pub loop-before-preserved : goal.loop-before-preserved
loop-before-preserved c =
    let start = c.loop-before.start in
    let first = c.cut.result.0.now in
    let own = c.fault_of_step-fault.result in
    record {
      utf8 = search rules;
      fault = ap (λ o. first_step_fault (c.loop-before._before + 1) (start + (length first + 1)) (option_map_or written_steps (option_map (λ r. r.now) o) [])) (sym c.in-Some.is)
          ∙ fault_behind c.loop-before.left.now first (option_map (λ r. r.now) c.cut.result.1) c.cut.ensures.before c.cut.ensures.after c.loop-before._before start (omega arith) _ own
          c.loop-before.invariant.fault c.fault_of_step-fault.ensures (sym c.is_some.ensures ∙ c.if-is_some.false);
      room = omega (arith, cut_room c.loop-before.left.now first (option_map (λ r. r.now) c.cut.result.1) c.cut.ensures.before c.cut.ensures.after c.in-Some.rest.now (ap (option_map (λ r. r.now)) c.in-Some.is));
    }

pub returns : goal.returns
returns c = sym (sym c.loop-before.invariant.fault ∙ too_many c.loop-before.left.now c.loop-before._before c.loop-before.start (omega arith) ∙ ap Some (sym c.at.ensures))

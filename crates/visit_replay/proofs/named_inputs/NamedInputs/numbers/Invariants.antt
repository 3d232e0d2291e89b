use Rattle.std.proofs.Common.{◌≡◌, filter, map, option_map, take}
use Rattle.visit_replay.specs.Aim.{is_same_name}
use Rattle.visit_replay.proofs.named_inputs.NamedInputs.numbers.Given as goal

abbrev pub invariant-loop-input : goal.invariant-loop-input
invariant-loop-input l = l.found.items
    ≡ map (λ input. input.number) (filter (λ input. is_same_name (option_map (λ n. n.now) input.name) (option_map (λ n. n.now) l.name)) (take l.input-index l.self.inputs.items))

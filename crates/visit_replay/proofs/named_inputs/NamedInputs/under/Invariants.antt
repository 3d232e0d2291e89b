use Rattle.std.proofs.Common.{◌≡◌, ◌<◌, ℕ, List, [], ◌∷◌, ◌++◌, Option, filter, map}
use Rattle.std.specs.List.{range_with_len}
use Rattle.page_tree.specs.Look.{child_count_at}
use Rattle.page_tree.specs.Number.{place_numbered}
use Rattle.visit_replay.specs.Aim.{is_hidden_named}
use Rattle.visit_replay.specs.inside.Differing.{numbers_named}
use Rattle.visit_replay.proofs.named_inputs.NamedInputs.under.Given as goal

abbrev pub invariant-loop-i : goal.invariant-loop-i
invariant-loop-i l = record {
  here : l._i < child_count_at (place_numbered l.parent l.page) l.page → place_numbered l.child l.page ≡ place_numbered l.parent l.page ++ l._i ∷ [];
  found : (name : Option (List ℕ)) → map (λ n. place_numbered n l.page) (numbers_named l.all name)
      ≡ filter (is_hidden_named name l.page) (map (λ i. place_numbered l.parent l.page ++ i ∷ []) (range_with_len 0 l._i));
}

use Rattle.std.proofs.Common.{◌≡◌, List, [], ◌∷◌, length, None, refl, arith}
use Rattle.serde_json.specs.View.{items_view}
use Rattle.serde_json.specs.declared.value.Value.{Value}
use Rattle.site_line.specs.Decision.{decision_among}
use Rattle.site_line.proofs.decision.read_decision.Goals as goal

not_three : (values : List Value) → (length values ≡ 3 → ⊥) → decision_among (items_view values) ≡ None
not_three [] other = refl
not_three (client ∷ []) other = refl
not_three (client ∷ visit ∷ []) other = refl
not_three (client ∷ visit ∷ choice ∷ []) other = absurd (other refl)
not_three (client ∷ visit ∷ choice ∷ more ∷ values) other = refl

pub returns-then-items-ne3 : goal.returns-then-items-ne3
returns-then-items-ne3 c = rw c.in_ok-items.ensures (not_three c.in_ok-items.items.now (λ three. omega arith))

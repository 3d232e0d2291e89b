use Rattle.std.proofs.Common.{◌≡◌, ◌-◌, set, ◌⊎◌, ◌++◌, ◌∷◌, [], ◌/◌, ◌*◌, ◌%◌, ◌^◌, ◌∙◌, refl, ap, sym, subst, arith}
use Rattle.std.specs.Prelude.{◌↔◌}
use Rattle.std.specs.Vec.{vec_len}
use Rattle.std.proofs.lemmas.List.{set-get_or}
use Rattle.site_hooks.specs.Sets.{IsOfWords}
use Rattle.site_hooks.specs.declared.number_set.Word.{Word}
use Rattle.site_hooks.proofs.SetLaws.{widened, pushed, only_bit, low_bit}
use Rattle.site_hooks.proofs.number_set.NumberSet.insert.Goals as goal
use Rattle.site_hooks.proofs.number_set.NumberSet.insert.Goals.{in_default-via-in-Some+else-last_mut-index, in_default-via-in-None-1}

pub returns-in-Some : goal.returns-in-Some
returns-in-Some c = λ k. widened c.args.self.now.words.items _ c.in-Some.last.now _ _ c.args.number k
    (omega (arith, c.in-Some.ensures.variant.0 refl, c.args.self.now.words.ok)) (sym c.in-Some.ensures.value) refl refl (omega (arith, c.if-last_mut-index.true)) (low_bit c.args.number)

pub returns-in_ok-push-in_default : goal.returns-in_ok-push-in_default
returns-in_ok-push-in_default c = λ k.
    let words = c.args.self.now.words.items in
    let word : Word = record { index = c.args.number / 64; bits = 1 * 2 ^ (c.args.number % 64) % 2 ^ 64 } in
    let were : c.in_default.self.words.items ≡ words = elim c.in_default.branch [
      | in_default-via-in-Some+else-last_mut-index w ↦ ap (λ s. s.words.items) w.self-is ∙ ap (set words (vec_len c.args.self.now.words - 1)) w.in-Some.ensures.value ∙ set-get_or words (vec_len c.args.self.now.words - 1) w.in-Some.last.now
      | in_default-via-in-None-1 w ↦ ap (λ set. set.words.items) w.self-is
    ] in
    subst (λ new. IsOfWords new k ↔ (IsOfWords words k ⊎ (k ≡ c.args.number))) (sym (c.in_ok-push-in_default.ensures.items ∙ ap (λ old. old ++ word ∷ []) were))
    (pushed words word c.args.number k (only_bit c.args.number k word refl (low_bit c.args.number)))

use Rattle.std.proofs.Common.{◌<◌, ◌∙◌, sym, arith}
use Rattle.std.proofs.lemmas.Bool.{false≢true}
use Rattle.std.proofs.lemmas.List.Elements.{All-from_get_or}
use Rattle.std.proofs.lemmas.Slice.Eq.{bytes_eq-Decides}
use Rattle.visit_replay.proofs.ApartForms.{same_word}
use Rattle.visit_replay.proofs.told.are_words_same.Goals as goal

pub returns-clause-apart : goal.returns-clause-apart
returns-clause-apart c = λ off written.
    let was = c.args.was.now in
    let is = c.args.is.now in
    let small = All-from_get_or (λ b. b < 256) was 0 (λ i within. omega (arith, c.type_inv.was i)) in
    let small' = All-from_get_or (λ b. b < 256) is 0 (λ i within. omega (arith, c.type_inv.is i)) in
    false≢true (sym off ∙ c.is_word.ensures ∙ (bytes_eq-Decides was is).1 (same_word was is small small' written))

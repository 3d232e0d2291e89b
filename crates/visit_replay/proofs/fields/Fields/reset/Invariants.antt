use Rattle.std.proofs.Common.{◌≡◌, ℕ, ◌<◌, false, length, get_or, None}
use Rattle.visit_replay.specs.inside.KeptFields.{turned_now}
use Rattle.visit_replay.proofs.fields.Fields.reset.Given as goal

abbrev pub invariant-loop-at : goal.invariant-loop-at
invariant-loop-at l = record {
  long : length l.self.texts.items ≡ length l.fn.self.texts.items;
  wide : length l.self.turned.items ≡ length l.fn.self.turned.items;
  texts : (number : ℕ) → number < l.at → get_or l.self.texts.items number None ≡ None;
  turned : (number : ℕ) → number < l.at → turned_now l.self number ≡ false;
}

use Rattle.std.proofs.Common.{ℕ, ◌≡◌, ◌<◌, None, get_or}
use Rattle.visit_replay.specs.inside.Senders.{HasPlaces}
use Rattle.visit_replay.specs.declared.page_senders.Known.TheVariants.{Nothing}
use Rattle.visit_replay.proofs.page_senders.PageSenders.forget.Given as goal

abbrev pub invariant-loop-number : goal.invariant-loop-number
invariant-loop-number l = record {
  form : l.self.form ≡ None;
  nothing : (number : ℕ) → number < l.number → get_or l.self.known.items number Nothing ≡ Nothing;
  room : (n : ℕ) → HasPlaces n l.fn.self → HasPlaces n l.self;
}

use Rattle.std.proofs.Common.{◌≡◌, ◌≤◌, ◌+◌, ℕ, All, length}
use Rattle.visit_replay.specs.declared.forms.Filled.{Filled}
use Rattle.visit_replay.specs.inside.FieldsNow.{pairs_now}
use Rattle.visit_replay.specs.inside.Senders.{HasPlaces, IsSender, KnowsNodes, SaysFresh, sent_all}
use Rattle.visit_replay.proofs.page_senders.PageSenders.list.Given as goal

abbrev pub invariant-loop-number : goal.invariant-loop-number
invariant-loop-number l = record {
  up : l.initial.number ≤ l.number;
  few : length l.self.all.items + l.initial.number ≤ l.number;
  each : All (IsSender l.page) l.self.all.items;
  marked : All (SaysFresh l.names) l.self.all.items;
  pairs : (filled : Filled) → filled.page.now ≡ l.page → sent_all filled l.self.all.items ≡ pairs_now filled l.initial.number l.number;
  known : KnowsNodes l.names l.page l.self;
  room : (n : ℕ) → HasPlaces n l.fn.self → HasPlaces n l.self;
}

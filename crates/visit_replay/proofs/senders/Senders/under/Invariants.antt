use Rattle.std.proofs.Common.{◌≡◌, ◌≤◌, All}
use Rattle.visit_replay.specs.declared.forms.Filled.{Filled}
use Rattle.visit_replay.specs.inside.FieldsNow.{pairs_now}
use Rattle.visit_replay.specs.inside.Senders.{SaysFresh, IsSender, sent_all}
use Rattle.visit_replay.proofs.senders.Senders.under.Given as goal

abbrev pub invariant-loop-number : goal.invariant-loop-number
invariant-loop-number l = record {
  up : l.initial.number ≤ l.number;
  each : All (IsSender l.page) l.them.all.items;
  marked : All (SaysFresh l.names) l.them.all.items;
  pairs : (filled : Filled) → filled.page.now ≡ l.page → sent_all filled l.them.all.items ≡ pairs_now filled l.initial.number l.number;
}

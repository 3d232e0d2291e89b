use Rattle.std.proofs.Common.{◌≡◌, ◌+◌, ◌≤◌, ◌++◌, length}
use Rattle.std.specs.Vec.{vec_capacity}
use Rattle.conflict_desk.specs.Desk.{after_calls}
use Rattle.warp_run.specs.Settle.{put_on}
use Rattle.warp_run.proofs.settling.put_all.Given as goal

abbrev pub invariant-loop-decision : goal.invariant-loop-decision
invariant-loop-decision l = record {
  room : length l.decided.items + length l.decision-iterator.rest.items ≤ vec_capacity l.decided;
  desk : after_calls l.desk l.decision-iterator.rest.items ≡ after_calls l.initial.desk l.initial.decision-iterator.rest.items;
  decided : l.decided.items ++ put_on l.desk l.decision-iterator.rest.items ≡ l.initial.decided.items ++ put_on l.initial.desk l.initial.decision-iterator.rest.items;
}

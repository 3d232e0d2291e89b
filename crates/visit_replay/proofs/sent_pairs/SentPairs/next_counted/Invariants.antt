use Rattle.std.proofs.Common.{◌≡◌, ℕ, ◌≤◌, ◌-◌, List, All, length, drop, true}
use Rattle.visit_replay.specs.inside.FieldsNow.{told}
use Rattle.visit_replay.specs.inside.Senders.{SaysFresh, sent_all}
use Rattle.visit_replay.proofs.sent_pairs.SentPairs.next_counted.Given as goal

abbrev pub invariant-loop-place : goal.invariant-loop-place
invariant-loop-place l = record {
  within : l.place ≤ length l.self.senders.now;
  same : (names : List (List ℕ)) → All (SaysFresh names) l.self.senders.now
      → told true names (sent_all l.self.filled (drop l.place l.self.senders.now)) ≡ told true names (sent_all l.self.filled (drop l.from l.self.senders.now));
}

abbrev pub decreases-loop-place : goal.decreases-loop-place
decreases-loop-place l = length l.self.senders.now - l.place

use Rattle.std.proofs.Common.{◌≡◌, ◌≤◌, List, ℕ, All, length, drop, map, true}
use Rattle.form_urlencoded.specs.Form.{serialize_pair}
use Rattle.visit_replay.specs.inside.FieldsNow.{told}
use Rattle.visit_replay.specs.inside.Senders.{SaysFresh, sent_all}
use Rattle.visit_replay.specs.inside.Tellings.{pairs_told}
use Rattle.visit_replay.proofs.told.are_pairs_alike.Given as goal

abbrev pub invariant-loop-place : goal.invariant-loop-place
invariant-loop-place l = record {
  few : l.at ≤ length l.is.senders.now;
  same : (names : List (List ℕ)) → All (SaysFresh names) l.was.senders.now → All (SaysFresh names) l.is.senders.now
      → told true names (sent_all l.was.filled (drop l.place l.was.senders.now)) ≡ told true names (sent_all l.is.filled (drop l.at l.is.senders.now))
      → told true names (pairs_told l.was) ≡ told true names (pairs_told l.is);
  apart : (names : List (List ℕ)) → All (SaysFresh names) l.was.senders.now → All (SaysFresh names) l.is.senders.now
      → map serialize_pair (told true names (pairs_told l.was)) ≡ map serialize_pair (told true names (pairs_told l.is))
      → map serialize_pair (told true names (sent_all l.was.filled (drop l.place l.was.senders.now)))
      ≡ map serialize_pair (told true names (sent_all l.is.filled (drop l.at l.is.senders.now)));
}

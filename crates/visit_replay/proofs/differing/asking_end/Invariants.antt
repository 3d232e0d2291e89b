use Rattle.std.proofs.Common.{ℕ, ◌≡◌, ◌≤◌, length, slice_get, IfSome}
use Rattle.upload_reader.specs.Session.{request_of}
use Rattle.visit_replay.proofs.differing.asking_end.Given as goal

abbrev pub invariant-loop-end : goal.invariant-loop-end
invariant-loop-end l = record {
  within : l.end ≤ length l.events;
  rest : (k : ℕ) → l.end ≤ k → IfSome (slice_get l.events k) (λ event. request_of event ≡ 0);
}

abbrev pub decreases-loop-end : goal.decreases-loop-end
decreases-loop-end l = l.end

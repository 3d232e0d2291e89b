use Rattle.std.proofs.Common.{ℕ, ◌≡◌, [], slice_get, Some, Vec}
use Rattle.std.specs.Global.{Global}
use Rattle.std.specs.Vec.{vec_capacity, vec_len}
use Rattle.round_robin.proofs.dealt.empty.Given as goal

abbrev pub invariant-loop-k : goal.invariant-loop-k
invariant-loop-k g l = record {
  count : vec_len l.dealt ≡ l._k;
  room : vec_capacity l.dealt ≡ vec_capacity l.initial.dealt;
  each : (hand : ℕ) (held : Vec g.row.T.Denot Global) → slice_get l.dealt.items hand ≡ Some held → held.items ≡ [];
}

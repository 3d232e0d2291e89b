use Rattle.std.proofs.Common.{◌≡◌, ◌+◌, ◌*◌, ◌-◌, ◌≤◌, ◌++◌, drop, length, vec_len, vec_capacity}
use Rattle.form_urlencoded.specs.Form.{byte_serialize}
use Rattle.warp_run.proofs.reporting.buffer.ReportBuffer.hold_encoded.Given as goal

abbrev pub invariant-loop-byte : goal.invariant-loop-byte
invariant-loop-byte l = record {
  held : l.self.held.items ++ byte_serialize (drop l.byte-index l.word) ≡ l.initial.self.held.items ++ byte_serialize l.word;
  room : vec_len l.self.held + 3 * (length l.word - l.byte-index) ≤ vec_capacity l.self.held;
  failed : l.self.failed ≡ l.initial.self.failed;
}

use Rattle.std.proofs.Common.{◌≡◌, [], drop}
use Rattle.std.specs.Str.{bytes_eq}
use Rattle.form_urlencoded.specs.Form.{extend_pairs}
use Rattle.visit_replay.specs.inside.Senders.{sent_all}
use Rattle.visit_replay.proofs.LeftBehind.{joined}
use Rattle.visit_replay.proofs.comparing.are_pairs.Given as goal
use denote.Shadow.{shadow}
use denote.Text.{Utf8}

abbrev pub invariant-loop-sender : goal.invariant-loop-sender
invariant-loop-sender l = record {
  text : shadow (Utf8 l.mark);
  rest : bytes_eq (joined l.mark (sent_all l.filled (drop l.sender-index l.senders))) l.rest ≡ bytes_eq (extend_pairs [] (sent_all l.filled l.senders)) l.text;
}

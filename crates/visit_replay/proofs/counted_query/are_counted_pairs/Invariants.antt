use Rattle.std.proofs.Common.{◌≡◌, ℕ, List, All, map, true, drop}
use Rattle.std.specs.Str.{bytes_eq}
use Rattle.form_urlencoded.specs.Form.{serialize_pair}
use Rattle.page_looks.specs.Sending.{query_text}
use Rattle.visit_replay.specs.inside.FieldsNow.{told}
use Rattle.visit_replay.specs.inside.Senders.{SaysFresh, sent_all}
use Rattle.visit_replay.proofs.LeftBehind.{joined}
use Rattle.visit_replay.proofs.counted_query.are_counted_pairs.Given as goal
use denote.Shadow.{shadow}
use denote.Text.{Utf8}

abbrev pub invariant-loop-sender : goal.invariant-loop-sender
invariant-loop-sender l = record {
  text : shadow (Utf8 l.mark);
  rest : (names : List (List ℕ)) → All (SaysFresh names) l.senders → bytes_eq (joined l.mark (told true names (sent_all l.filled (drop l.sender-index l.senders)))) l.rest
      ≡ bytes_eq (query_text (map serialize_pair (told true names (sent_all l.filled l.senders)))) l.text;
}

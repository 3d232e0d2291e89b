use Rattle.std.proofs.Common.{◌≡◌, ℕ, List, All, drop}
use Rattle.form_urlencoded.specs.Form.{extend_pairs}
use Rattle.visit_replay.specs.inside.FieldsNow.{told}
use Rattle.visit_replay.specs.inside.Senders.{SaysCounted, sent_all}
use Rattle.visit_replay.proofs.forms.add_pairs.Given as goal

abbrev pub invariant-loop-sender : goal.invariant-loop-sender
invariant-loop-sender l = (names : List (List ℕ)) → All (SaysCounted l.counted names) l.senders
    → (l.pairs.prefix ≡ l.initial.pairs.prefix)
    × (extend_pairs l.pairs.form (told l.counted names (sent_all l.filled (drop l.sender-index l.senders))) ≡ extend_pairs l.initial.pairs.form (told l.counted names (sent_all l.filled l.senders)))

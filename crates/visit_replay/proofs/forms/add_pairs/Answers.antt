use Rattle.std.proofs.Common.{◌<◌, ◌∙◌, ◌+◌, drop, length, subst, sym, ap, arith}
use Rattle.form_urlencoded.specs.Form.{extend_pairs}
use Rattle.visit_replay.specs.inside.FieldsNow.{told}
use Rattle.visit_replay.specs.inside.Senders.{SaysCounted, sent_all}
use Rattle.visit_replay.proofs.OneSenderMore.{extend_sender, sender_there, sender_is}
use Rattle.visit_replay.proofs.forms.add_pairs.Goals as goal

pub loop-sender-preserved : goal.loop-sender-preserved
loop-sender-preserved c = λ names marked.
    let filled = c.args.filled.now in
    let counted = c.args.counted in
    let senders = c.args.senders.now in
    let i = c.loop-sender.sender-index in
    let sender = sender_there senders i in
    let below : i < length senders = omega (arith, c.loop-sender-test.true) in
    let at = sender_is senders i below in
    let one : SaysCounted counted names sender = subst (SaysCounted counted names) (sym at) (marked i sender below) in
    let so_far = c.loop-sender.invariant names marked in (
      ap (λ p. p.prefix) (c.in_ok-add_pair.ensures names one) ∙ so_far.0,
      ap (λ p. extend_pairs p.form (told counted names (sent_all filled (drop (i + 1) senders)))) (c.in_ok-add_pair.ensures names one)
          ∙ extend_sender counted names filled senders c.loop-sender.pairs.form i sender below at
          ∙ so_far.1,
    )

use Rattle.std.proofs.Common.{◌≡◌, ◌<◌, ◌∷◌, [], ◌++◌, length, Some, option_map, refl, sym, ap, ◌∙◌, arith}
use Rattle.std.specs.Str.{bytes_eq}
use Rattle.std.proofs.lemmas.Str.{IsUtf8-nil, encode_ascii}
use Rattle.visit_replay.specs.inside.FieldsNow.{pair_of, pair_now}
use Rattle.visit_replay.specs.inside.Senders.{sent_all}
use Rattle.visit_replay.proofs.LeftBehind.{joined_first, met_here, differs_here}
use Rattle.visit_replay.proofs.OneSenderMore.{sender_there, sender_is}
use Rattle.visit_replay.proofs.comparing.are_pairs.Goals as goal

pub loop-sender-init : goal.loop-sender-init
loop-sender-init c = record {
  text = IsUtf8-nil;
  rest = ap (λ text. bytes_eq text c.args.text.now) (joined_first (sent_all c.args.filled.now c.args.senders.now));
}

pub returns-in_default-pair_behind : goal.returns-in_default-pair_behind
returns-in_default-pair_behind c =
    let l = c.loop-sender in
    let senders = c.args.senders.now in
    let sender = sender_there senders l.sender-index in
    let below : l.sender-index < length senders = omega (arith, c.loop-sender-test.true) in
    let one = pair_of c.in-Some.sent in
    let here : Some one ≡ pair_now c.args.filled.now sender.number = ap (option_map pair_of) (sym c.in-Some.is) ∙ c.sent_by.ensures in
    differs_here c.args.filled.now c.args.senders.now l.mark.now l.rest.now l.sender-index sender below (sender_is senders l.sender-index below) one here c.in_default-pair_behind.ensures ∙ l.invariant.rest

pub loop-sender-preserved : goal.loop-sender-preserved
loop-sender-preserved c =
    let l = c.loop-sender in
    let senders = c.args.senders.now in
    let sender = sender_there senders l.sender-index in
    let below : l.sender-index < length senders = omega (arith, c.loop-sender-test.true) in
    let one = pair_of c.in-Some.sent in
    let here : Some one ≡ pair_now c.args.filled.now sender.number = ap (option_map pair_of) (sym c.in-Some.is) ∙ c.sent_by.ensures in
    record {
      text = (38 ∷ [], (refl, ap (λ c. c ++ []) (encode_ascii 38 (omega arith))));
      rest =
          met_here c.args.filled.now c.args.senders.now l.mark.now l.rest.now l.sender-index sender below (sender_is senders l.sender-index below) one c.in-Some-pair_behind.left.now here c.in-Some-pair_behind.ensures
          ∙ l.invariant.rest;
    }

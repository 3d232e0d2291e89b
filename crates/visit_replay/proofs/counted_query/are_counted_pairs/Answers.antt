use Rattle.std.proofs.Common.{◌≡◌, ◌<◌, ◌∷◌, [], ◌++◌, length, true, Some, option_map, refl, sym, ap, ◌∙◌, subst, arith}
use Rattle.std.specs.Str.{bytes_eq}
use Rattle.std.proofs.lemmas.Str.{encode_ascii}
use Rattle.visit_replay.specs.inside.FieldsNow.{pair_of, pair_now, told}
use Rattle.visit_replay.specs.inside.Senders.{IsSender, SaysFresh, sent_all}
use Rattle.visit_replay.proofs.CountedSenders.{text_joined, passed_here, counted_here, other_here}
use Rattle.visit_replay.proofs.OneSenderMore.{sender_there, sender_is}
use Rattle.visit_replay.proofs.counted_query.are_counted_pairs.Goals as goal

pub loop-sender-init : goal.loop-sender-init
loop-sender-init c = record {
  text = (63 ∷ [], (refl, ap (λ c. c ++ []) (encode_ascii 63 (omega arith))));
  rest = λ names marked. ap (λ text. bytes_eq text c.args.text.now) (sym (text_joined (told true names (sent_all c.args.filled.now c.args.senders.now))));
}

pub loop-sender-preserved-then-sender : goal.loop-sender-preserved-then-sender
loop-sender-preserved-then-sender c =
    let l = c.loop-sender in
    let senders = c.args.senders.now in
    let sender = sender_there senders l.sender-index in
    let below : l.sender-index < length senders = omega (arith, c.loop-sender-test.true) in
    let at = sender_is senders l.sender-index below in
    let is_one = subst (IsSender c.args.filled.now.page.now) (sym at) (c.requires l.sender-index sender below) in
    record {
      text = l.invariant.text;
      rest = λ names marked.
          let one : SaysFresh names sender = subst (SaysFresh names) (sym at) (marked l.sender-index sender below) in
          passed_here names c.args.filled.now senders l.mark.now l.rest.now l.sender-index sender below at is_one one c.if-sender.true ∙ l.invariant.rest names marked;
    }

pub returns-in_default-pair_behind : goal.returns-in_default-pair_behind
returns-in_default-pair_behind c = λ names marked.
    let l = c.loop-sender in
    let senders = c.args.senders.now in
    let sender = sender_there senders l.sender-index in
    let below : l.sender-index < length senders = omega (arith, c.loop-sender-test.true) in
    let at = sender_is senders l.sender-index below in
    let is_one = subst (IsSender c.args.filled.now.page.now) (sym at) (c.requires l.sender-index sender below) in
    let one : SaysFresh names sender = subst (SaysFresh names) (sym at) (marked l.sender-index sender below) in
    let pair = pair_of c.in-Some.sent in
    let here : Some pair ≡ pair_now c.args.filled.now sender.number = ap (option_map pair_of) (sym c.in-Some.is) ∙ c.sent_by.ensures in
    other_here names c.args.filled.now senders l.mark.now l.rest.now l.sender-index sender below at is_one one c.if-sender.false pair here c.in_default-pair_behind.ensures ∙ l.invariant.rest names marked

pub loop-sender-preserved : goal.loop-sender-preserved
loop-sender-preserved c =
    let l = c.loop-sender in
    let senders = c.args.senders.now in
    let sender = sender_there senders l.sender-index in
    let below : l.sender-index < length senders = omega (arith, c.loop-sender-test.true) in
    let at = sender_is senders l.sender-index below in
    let is_one = subst (IsSender c.args.filled.now.page.now) (sym at) (c.requires l.sender-index sender below) in
    let pair = pair_of c.in-Some.sent in
    let here : Some pair ≡ pair_now c.args.filled.now sender.number = ap (option_map pair_of) (sym c.in-Some.is) ∙ c.sent_by.ensures in
    record {
      text = (38 ∷ [], (refl, ap (λ c. c ++ []) (encode_ascii 38 (omega arith))));
      rest = λ names marked.
          let one : SaysFresh names sender = subst (SaysFresh names) (sym at) (marked l.sender-index sender below) in
          counted_here names c.args.filled.now senders l.mark.now l.rest.now l.sender-index sender below at is_one one c.if-sender.false pair c.in-Some-pair_behind.left.now here c.in-Some-pair_behind.ensures
          ∙ l.invariant.rest names marked;
    }

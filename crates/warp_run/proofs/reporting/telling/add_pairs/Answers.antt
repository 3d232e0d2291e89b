use Rattle.std.proofs.Common.{◌∷◌, [], ◌++◌, option_map, refl, sym, ap, ◌∙◌, arith}
use Rattle.std.proofs.lemmas.Str.{IsUtf8-nil, encode_ascii}
use Rattle.visit_replay.specs.inside.FieldsNow.{pair_of}
use Rattle.visit_replay.specs.inside.Tellings.{pairs_told}
use Rattle.visit_replay.proofs.LeftBehind.{joined_first}
use Rattle.warp_run.proofs.BufferLaws.{adds_as, adds_nothing, ◌>>◌}
use Rattle.warp_run.proofs.EncodedLaws.{there, no_pair, pair_first, pairs_end}
use Rattle.warp_run.proofs.reporting.telling.add_pairs.Goals as goal

pub loop-place-init : goal.loop-place-init
loop-place-init g c = record { text = IsUtf8-nil; rest = λ w b put. put }

pub loop-place-preserved-in_default : goal.loop-place-preserved-in_default
loop-place-preserved-in_default g c =
    let l = c.loop-place in
    let nothing = ◌∙◌ {c = there c.args.pairs.now l.mark.now l.place} (ap (option_map pair_of) (sym c.in_default.is)) c.at.ensures in
    record {
      text = l.invariant.text;
      rest = λ w b put. l.invariant.rest w b (adds_as put (no_pair c.args.pairs.now l.mark.now l.place nothing));
    }

pub loop-place-preserved : goal.loop-place-preserved
loop-place-preserved g c =
    let l = c.loop-place in
    let one = ◌∙◌ {c = there c.args.pairs.now l.mark.now l.place} (ap (option_map pair_of) (sym c.in-Some.is)) c.at.ensures in
    record {
      text = (38 ∷ [], (refl, ap (λ c. c ++ []) (encode_ascii 38 (omega arith))));
      rest = λ w b put.
          l.invariant.rest w b (adds_as (c.add.ensures >> c.add_pair.ensures >> put) (pair_first c.args.pairs.now l.mark.now l.place (pair_of c.in-Some.pair) one));
    }

pub returns : goal.returns
returns g c =
    let l = c.loop-place in
    adds_as
    (l.invariant.rest l.writer l.buffer
    (adds_as (adds_nothing g.W.Sink.puts g.W.Write.contents l.writer l.buffer)
    (pairs_end c.args.pairs.now l.mark.now l.place (omega (arith, c.places-place-end.ensures, c.loop-place-test.false)))))
    (joined_first (pairs_told c.args.pairs.now))

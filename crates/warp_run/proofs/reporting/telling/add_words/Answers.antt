use Rattle.warp_run.proofs.BufferLaws.{adds_as, adds_nothing, ◌>>◌}
use Rattle.warp_run.proofs.EncodedLaws.{word_first, no_word}
use Rattle.warp_run.proofs.reporting.telling.add_words.Goals as goal

pub loop-word-preserved : goal.loop-word-preserved
loop-word-preserved g c w b put =
    c.loop-word.invariant w b (adds_as (c.add_encoded.ensures >> put) (word_first c.in-Some.word.now c.next.new.self c.loop-word.words c.in-Some.ensures))

pub returns : goal.returns
returns g c =
    c.loop-word.invariant c.loop-word.writer c.loop-word.buffer
    (adds_as (adds_nothing g.W.Sink.puts g.W.Write.contents c.loop-word.writer c.loop-word.buffer) (no_word c.loop-word.words c.in_default.ensures.0))

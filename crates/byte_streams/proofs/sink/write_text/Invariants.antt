use Rattle.std.proofs.Common.{length, take, ◌-◌, ◌≤◌}
use Rattle.byte_streams.specs.Writing.{Takes, writes_of}
use Rattle.byte_streams.proofs.sink.write_text.Given as goal

abbrev pub invariant-loop-at : goal.invariant-loop-at
invariant-loop-at g l = record {
  within : l.at ≤ length l.text;
  takes : Takes (writes_of g.W.Sink.puts g.W.Write.contents l.fn.writer l.writer) (take l.at l.text) 0;
}

abbrev pub decreases-loop-at : goal.decreases-loop-at
decreases-loop-at g l = length l.text - l.at

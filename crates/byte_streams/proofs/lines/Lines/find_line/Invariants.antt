use Rattle.std.proofs.Common.{◌≡◌, ◌+◌, ◌-◌, ◌≤◌, length, None}
use Rattle.byte_streams.specs.Limits.{max_reads}
use Rattle.byte_streams.specs.Reading.{uncut_bytes, ReadsWhile, NoLineYet}
use Rattle.byte_streams.proofs.Feeds.{before_feed}
use Rattle.byte_streams.proofs.lines.Lines.find_line.Given as goal

-- the bytes that were searched hold no line feed
abbrev pub invariant-loop-count : goal.invariant-loop-count
invariant-loop-count g l = record {
  reads : ReadsWhile (NoLineYet l.limit l.fn.self.place) l.fn.self l.self;
  place : l.self.place ≡ l.fn.self.place;
  fault : l.self.fault ≡ None;
  none : l.scanned ≤ before_feed (uncut_bytes l.self);
  below : l.scanned ≤ l.limit;
}

abbrev pub decreases-loop-count : goal.decreases-loop-count
decreases-loop-count g l = max_reads + 1 - length l.self.answers

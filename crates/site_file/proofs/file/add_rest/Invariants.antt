use Rattle.std.proofs.Common.{◌+◌, ◌-◌, ◌*◌}
use Rattle.byte_streams.specs.Limits.{max_reads, read_bytes}
use Rattle.byte_streams.specs.Reading.{ReadsWhile}
use Rattle.site_file.specs.SiteFile.{FileIsUndecided}
use Rattle.site_file.specs.inside.{HasTaken}
use Rattle.site_file.proofs.file.add_rest.Given as goal

abbrev pub invariant-loop-fault : goal.invariant-loop-fault
invariant-loop-fault g l = record {
  taken : HasTaken l.lines l.taken l.growing;
  reads : ReadsWhile FileIsUndecided l.initial.lines l.lines;
}

abbrev pub decreases-loop-fault : goal.decreases-loop-fault
decreases-loop-fault g l = read_bytes * max_reads + 1 - l.lines.place

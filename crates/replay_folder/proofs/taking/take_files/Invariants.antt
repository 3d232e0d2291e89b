use Rattle.std.proofs.Common.{◌-◌, length}
use Rattle.byte_streams.specs.Reading.{WasRead}
use Rattle.replay_folder.specs.inside.{IsUpTo}
use Rattle.replay_folder.proofs.taking.take_files.Given as goal

abbrev pub invariant-loop-taken : goal.invariant-loop-taken
invariant-loop-taken g l = IsUpTo (WasRead g.F.Source.answers g.F.Read.remaining) (g.O.OpensUploads.opened l.opener) l.quota l.named l.taken

abbrev pub decreases-loop-taken : goal.decreases-loop-taken
decreases-loop-taken g l = length l.named - l.taken.next

use Rattle.std.proofs.Common.{ℕ, List}
use Rattle.byte_streams.specs.Reading.{WasRead}
use Rattle.replay_folder.specs.inside.{IsTaking}
use Rattle.replay_folder.specs.inside.Stretch.{AreFilesOf}
use Rattle.replay_folder.specs.declared.names.Named.{Named}
use Rattle.replay_folder.proofs.TellingLaws.{IsToldUpTo}
use Rattle.replay_folder.proofs.taken_round.tell_taken.Given as goal

abbrev pub invariant-loop-file : goal.invariant-loop-file
invariant-loop-file g l =
    (opener : g.row.O.Denot) (quota : ℕ) (before names : List Named) → AreFilesOf (WasRead g.F.Source.answers g.F.Read.remaining) (g.O.OpensUploads.opened opener) quota names l.fn.files.items
    → IsTaking (WasRead g.F.Source.answers g.F.Read.remaining) (g.O.OpensUploads.opened opener) quota before l.fn.round
    → IsToldUpTo (WasRead g.F.Source.answers g.F.Read.remaining) (g.O.OpensUploads.opened opener) quota before names l.fn.files.items l.file-iterator.rest.items l.told

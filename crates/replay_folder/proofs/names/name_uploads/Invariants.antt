use Rattle.std.proofs.Common.{length}
use Rattle.replay_folder.proofs.NamesLaws.{NamedSoFar}
use Rattle.replay_folder.proofs.names.name_uploads.Given as goal

abbrev pub invariant-loop-word : goal.invariant-loop-word
invariant-loop-word g l = NamedSoFar (g.O.OpensUploads.listed l.opener) l.fn.words l.words l.all.items

abbrev pub decreases-loop-word : goal.decreases-loop-word
decreases-loop-word g l = length l.words

use Rattle.byte_streams.specs.Reading.{WasRead}
use Rattle.shared_stock.specs.Slots.{AreMade}
use Rattle.replay_folder.specs.inside.Stretch.{IsFileOf}
use Rattle.replay_folder.proofs.drawn_files.drawn_share.Given as goal

abbrev pub invariant-loop-k : goal.invariant-loop-k
invariant-loop-k g l = AreMade (IsFileOf (WasRead g.F.Source.answers g.F.Read.remaining) (g.O.OpensUploads.opened l.opener) l.quota l.names) l.share.items

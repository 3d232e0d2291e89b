use Rattle.std.specs.List.{FoldsTo}
use Rattle.byte_streams.specs.Reading.{WasRead}
use Rattle.warp_server.specs.program.Callers.{sayings, GivesBack}
use Rattle.warp_server.proofs.program.rounds.give_back.Given as goal

-- what gives the rest back gives all back
abbrev pub invariant-loop-upload : goal.invariant-loop-upload
invariant-loop-upload g l =
    (now : g.row.C.Denot) → FoldsTo (GivesBack (sayings (WasRead g.R.Source.answers g.R.Read.remaining) g.C.Callers.brings g.C.Callers.brings_none g.C.Callers.takes_back)) l.callers l.upload-iterator.rest.items now
    → FoldsTo (GivesBack (sayings (WasRead g.R.Source.answers g.R.Read.remaining) g.C.Callers.brings g.C.Callers.brings_none g.C.Callers.takes_back)) l.fn.callers l.fn.uploads.items now

use Rattle.std.proofs.Common.{◌≡◌, List, length}
use Rattle.byte_streams.specs.Reading.{WasRead}
use Rattle.upload_reader.specs.Upload.{UploadState}
use Rattle.warp_server.specs.program.Callers.{sayings, MakesRounds}
use Rattle.warp_server.proofs.program.rounds.gather_rounds.Given as goal

abbrev pub invariant-loop : goal.invariant-loop
invariant-loop g l = record {
  made : List (List (UploadState g.row.R.Denot));
  count : length made ≡ l.counter;
  makes :
      MakesRounds (sayings (WasRead g.R.Source.answers g.R.Read.remaining) g.C.Callers.brings g.C.Callers.brings_none g.C.Callers.takes_back) l.site l.lanes
      l.fn.rounds l.fn.callers made l.gathered l.callers;
}

use Rattle.std.proofs.Common.{◌≡◌, take}
use Rattle.std.specs.List.{FoldsTo}
use Rattle.byte_streams.specs.Reading.{WasRead}
use Rattle.warp_server.specs.program.Callers.{sayings, GivesBack, uploads_in}
use Rattle.warp_server.proofs.RoundSteps.{gone}
use Rattle.warp_server.proofs.program.rounds.give_back_all.Given as goal

abbrev pub invariant-loop-k : goal.invariant-loop-k
invariant-loop-k g l = record {
  entries : l.round.clients.entries ≡ gone l.k l.initial.round.clients.entries;
  stop : l.round.stop ≡ l.initial.round.stop;
  back :
      FoldsTo (GivesBack (sayings (WasRead g.R.Source.answers g.R.Read.remaining) g.C.Callers.brings g.C.Callers.brings_none g.C.Callers.takes_back)) l.fn.callers
      (uploads_in (take l.k l.initial.round.clients.entries)) l.callers;
}

use Rattle.std.proofs.Common.{inr, subst}
use Rattle.std.specs.List.{FoldsTo}
use Rattle.lanes_in_turn.specs.Round.{IsNoRound}
use Rattle.upload_lanes.specs.Threads.{Gathers}
use Rattle.byte_streams.specs.Reading.{WasRead}
use Rattle.lanes_in_turn.specs.Taking.{never}
use Rattle.warp_server.specs.Rounds.{server_room}
use Rattle.warp_server.specs.program.Callers.{sayings, GivesBack}
use Rattle.warp_server.proofs.RoundSteps.{all_untouched}
use Rattle.warp_server.proofs.program.rounds.gather_round.Goals as goal

pub take_to_ends-requires-clause-untouched : goal.take_to_ends-requires-clause-untouched
take_to_ends-requires-clause-untouched g c κs within = all_untouched c.in_ok-uploads.uploads.items c.in_ok-uploads.ensures.ok.greeted

pub returns-in-Ok-clause-ok : goal.returns-in-Ok-clause-ok
returns-in-Ok-clause-ok g c = (
  c.in_ok-uploads.uploads.items,
  record {
    begun = c.accept_uploads.new.callers;
    came = c.in_ok-uploads.ensures.ok;
    gathers = record {
      whole = c.requires.whole;
      round = c.in-Ok.round;
      gathers = subst (λ quota. Gathers never server_room c.args.earlier c.in_ok-uploads.uploads.items quota c.in-Ok.round) c.quota.ensures c.in-Ok.ensures.ok;
      clients_are = c.give_back_all.ensures.clients;
      stop_is = c.give_back_all.ensures.stop;
    };
    back = c.give_back_all.ensures.back;
  },
)

pub returns-in-DuplicateClient-clause-refused : goal.returns-in-DuplicateClient-clause-refused
returns-in-DuplicateClient-clause-refused g c =
    let refused = c.in-Err.ensures.refused in
    let twice = c.in-DuplicateClient.is in
    let unread = refused.unread (λ no. cc) in
    inr (
      c.in_ok-uploads.uploads.items,
      (subst (IsNoRound c.in_ok-uploads.uploads.items) c.in-DuplicateClient.is refused.why).1,
      (
        c.accept_uploads.new.callers,
        c.in_ok-uploads.ensures.ok,
        subst (λ items. FoldsTo (GivesBack (sayings (WasRead g.R.Source.answers g.R.Read.remaining) g.C.Callers.brings g.C.Callers.brings_none g.C.Callers.takes_back)) c.accept_uploads.new.callers items c.give_back.new.callers) unread c.give_back.ensures,
      ),
    )

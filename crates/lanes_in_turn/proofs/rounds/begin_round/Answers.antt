use Rattle.std.proofs.Common.{ap, bytes_eq, refl, subst, sym, ◌∙◌}
use Rattle.std.specs.List.{AllByRecursion}
use Rattle.indexmap.specs.IndexMap.{get}
use Rattle.lanes_in_turn.specs.Round.{IsRound, IsNoRound}
use Rattle.lanes_in_turn.specs.Taking.{IsFreshLane}
use Rattle.lanes_in_turn.proofs.FreshLaws.{fresh_begun}
use Rattle.lanes_in_turn.proofs.rounds.begin_round.Goals as goal

pub returns-in-Ok-clause-begun : goal.returns-in-Ok-clause-begun
returns-in-Ok-clause-begun g c = record {
  is_round = subst IsRound c.as_slice.ensures.value c.in_default.ensures.ok;
  clients = c.in-Ok.ensures.same;
  stop = refl;
  lanes_are = c.in-Ok.ensures.lanes;
  room = c.in-Ok.ensures.room;
}

pub returns-in-Ok-clause-fresh : goal.returns-in-Ok-clause-fresh
returns-in-Ok-clause-fresh g c =
    subst (AllByRecursion IsFreshLane) (sym c.in-Ok.ensures.lanes) (fresh_begun (get bytes_eq c.args.earlier.clients) c.args.quota c.args.uploads.items c.requires.untouched)

pub returns-in-Err-clause-refused : goal.returns-in-Err-clause-refused
returns-in-Err-clause-refused g c = record {
  why = subst (λ uploads. IsNoRound uploads c.in-Err.fault) c.as_slice.ensures.value c.in-Err.ensures.refused.1;
  clients = refl;
  stop = refl;
  unread = λ differs. refl;
}

pub returns-in-Err-begin_lanes-clause-refused : goal.returns-in-Err-begin_lanes-clause-refused
returns-in-Err-begin_lanes-clause-refused g c = record {
  why = subst (IsNoRound c.args.uploads.items) (sym c.no_memory.ensures.fault) (subst IsRound c.as_slice.ensures.value c.in_default.ensures.ok);
  clients = ap (λ earlier. earlier.clients.entries) c.no_memory.ensures.earlier ∙ c.begin_lanes.ensures.same;
  stop = ap (λ earlier. earlier.stop) c.no_memory.ensures.earlier;
  unread = λ differs. absurd (differs c.no_memory.ensures.fault);
}

use Rattle.std.proofs.Common.{◌≡◌, ◌≤◌, ◌∷◌, [], length, map, take, slice_get, Some, sym, ap, subst, ◌∙◌, add-one, append-nil, arith}
use Rattle.std.specs.List.{FoldsTo}
use Rattle.std.proofs.lemmas.List.{take_all, drop_all}
use Rattle.std.proofs.lemmas.List.Elements.{filter_map-append}
use Rattle.indexmap.specs.IndexMap.{set_value_at}
use Rattle.byte_streams.specs.Reading.{WasRead}
use Rattle.warp_server.specs.Rounds.{without_reader}
use Rattle.warp_server.specs.program.Callers.{sayings, GivesBack, uploads_in}
use Rattle.warp_server.proofs.RoundSteps.{there, next_gone, all_more}
use Rattle.warp_server.proofs.program.rounds.give_back_all.Goals as goal

pub loop-k-preserved : goal.loop-k-preserved
loop-k-preserved g c =
    let k = c.loop-k.k in let entries = c.args.round.clients.entries in let inv = c.loop-k.invariant in
    let (entry, at) = there k entries (omega (arith, c.loop-k-test.true, c.len-k-end.ensures.len)) in
    let (still, then, taken) = next_gone k entries entry at in
    let here : slice_get c.loop-k.round.clients.entries k ≡ Some entry = ap (λ es. slice_get es k) inv.entries ∙ still in record {
      entries = rw add-one (c.give_back_at.ensures.clients entry here ∙ ap (λ es. set_value_at es k (without_reader entry.1)) inv.entries ∙ then);
      stop = inv.stop;
      back = rw add-one
          (subst (λ uploads. FoldsTo (GivesBack (sayings (WasRead g.R.Source.answers g.R.Read.remaining) g.C.Callers.brings g.C.Callers.brings_none g.C.Callers.takes_back)) c.args.callers.now
          uploads c.give_back_at.new.callers) (sym (ap uploads_in taken ∙ filter_map-append (λ e. e.1.upload) (take k entries) (entry ∷ [])))
          (all_more (GivesBack (sayings (WasRead g.R.Source.answers g.R.Read.remaining) g.C.Callers.brings g.C.Callers.brings_none g.C.Callers.takes_back))
          _ _ _ (uploads_in (take k entries)) (uploads_in (entry ∷ [])) inv.back (c.give_back_at.ensures.back entry here)));
    }

pub returns-clause-clients : goal.returns-clause-clients
returns-clause-clients g c =
    let k = c.loop-k.k in let entries = c.args.round.clients.entries in
    let all : length entries ≤ k = omega (arith, c.loop-k-test.false, c.len-k-end.ensures.len) in
    c.loop-k.invariant.entries ∙ rw (take_all k entries all, drop_all k entries all) (append-nil (map (λ entry. (entry.0, without_reader entry.1)) entries))

pub returns-clause-back : goal.returns-clause-back
returns-clause-back g c =
    let all : length c.args.round.clients.entries ≤ c.loop-k.k = omega (arith, c.loop-k-test.false, c.len-k-end.ensures.len) in
    subst (λ es. FoldsTo (GivesBack (sayings (WasRead g.R.Source.answers g.R.Read.remaining) g.C.Callers.brings g.C.Callers.brings_none g.C.Callers.takes_back)) c.args.callers.now
    (uploads_in es) c.loop-k.callers) (take_all c.loop-k.k c.args.round.clients.entries all) c.loop-k.invariant.back

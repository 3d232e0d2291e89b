use Rattle.std.proofs.Common.{◌≡◌, [], None, Some, refl, sym, ap, subst, ◌∙◌}
use Rattle.std.specs.List.{cons_option, FoldsTo}
use Rattle.std.specs.Option.{option_map}
use Rattle.std.proofs.lemmas.Option.{slice_get-map}
use Rattle.indexmap.specs.IndexMap.{set_value_at}
use Rattle.byte_streams.specs.Reading.{WasRead}
use Rattle.warp_server.specs.Rounds.{without_reader}
use Rattle.warp_server.specs.program.Callers.{sayings, GivesBack}
use Rattle.warp_server.proofs.RoundSteps.{same_lane}
use Rattle.warp_server.proofs.program.rounds.give_back_at.Goals as goal

pub returns-in-Some-take-clause-clients : goal.returns-in-Some-take-clause-clients
returns-in-Some-take-clause-clients g c entry at =
    rw c.in-Some-take.ensures.after
    (ap (λ lane. set_value_at c.args.clients.now.entries c.args.k (without_reader lane)) (same_lane c.args.clients.now.entries c.args.k c.in-Some.lane.now entry (sym c.in-Some.ensures.value) at))

pub returns-in-Some-take-clause-back : goal.returns-in-Some-take-clause-back
returns-in-Some-take-clause-back g c entry at =
    subst (λ held. FoldsTo (GivesBack (sayings (WasRead g.R.Source.answers g.R.Read.remaining) g.C.Callers.brings g.C.Callers.brings_none g.C.Callers.takes_back)) c.args.callers.now (cons_option held []) c.take_back.new.self)
    (c.in-Some-take.ensures.value ∙ ap (λ lane. lane.upload) (same_lane c.args.clients.now.entries c.args.k c.in-Some.lane.now entry (sym c.in-Some.ensures.value) at))
    (c.take_back.new.self, (c.into_reader.result, (c.into_reader.ensures.read, c.into_reader.ensures.ends), c.take_back.ensures), refl)

pub returns-in_default-take-clause-clients : goal.returns-in_default-take-clause-clients
returns-in_default-take-clause-clients g c entry at =
    rw c.in_default-take.ensures.after
    (ap (λ lane. set_value_at c.args.clients.now.entries c.args.k (without_reader lane)) (same_lane c.args.clients.now.entries c.args.k c.in-Some.lane.now entry (sym c.in-Some.ensures.value) at))

pub returns-in_default-take-clause-back : goal.returns-in_default-take-clause-back
returns-in_default-take-clause-back g c entry at =
    subst (λ held. FoldsTo (GivesBack (sayings (WasRead g.R.Source.answers g.R.Read.remaining) g.C.Callers.brings g.C.Callers.brings_none g.C.Callers.takes_back)) c.args.callers.now (cons_option held []) c.args.callers.now)
    (c.in_default-take.ensures.value ∙ ap (λ lane. lane.upload) (same_lane c.args.clients.now.entries c.args.k c.in-Some.lane.now entry (sym c.in-Some.ensures.value) at)) refl

pub returns-in_default-clause-clients : goal.returns-in_default-clause-clients
returns-in_default-clause-clients g c entry at =
    let none : None ≡ Some entry.1 = c.in_default.ensures.value ∙ slice_get-map (λ e. e.1) c.args.clients.now.entries c.args.k ∙ ap (option_map (λ e. e.1)) at in cc

pub returns-in_default-clause-back : goal.returns-in_default-clause-back
returns-in_default-clause-back g c entry at =
    let none : None ≡ Some entry.1 = c.in_default.ensures.value ∙ slice_get-map (λ e. e.1) c.args.clients.now.entries c.args.k ∙ ap (option_map (λ e. e.1)) at in cc

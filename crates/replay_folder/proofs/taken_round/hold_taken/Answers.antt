use Rattle.std.proofs.Common.{[], ◌∷◌, ◌++◌, refl, sym, ap, ◌∙◌}
use Rattle.byte_streams.specs.Reading.{WasRead}
use Rattle.replay_folder.specs.declared.open_round.RoundName.TheVariants.{Waits}
use Rattle.replay_folder.proofs.OwnLanesLaws.{no_value}
use Rattle.replay_folder.proofs.TakenRoundLaws.{taken_next}
use Rattle.replay_folder.proofs.taken_round.hold_taken.Goals as goal

pub returns : goal.returns
returns g c =
    let round = c.args.round in let one = c.args.taken in
    taken_next (WasRead g.F.Source.answers g.F.Read.remaining) round one _
    (record {
      taken = refl;
      held = c.in_ok-push.ensures.items ∙ ap (λ client. round.kept.held.items ++ Waits client ∷ []) c.in_ok-copy.ensures;
      entries = c.in_ok-insert.ensures.entries;
      stop = c.both_stops-own.ensures;
      new_client = no_value _ (sym c.contains_key.ensures ∙ c.if-contains_key.false);
      other_client = no_value _ (sym c.contains_key-else-contains_key.ensures ∙ c.if-contains_key-2.false);
    })
    c.requires.whole c.requires.few

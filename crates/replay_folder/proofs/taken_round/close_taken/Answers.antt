use Rattle.std.proofs.Common.{length, true≢false, refl, sym, ap, ◌∙◌}
use Rattle.std.proofs.lemmas.List.{nil_from_length}
use Rattle.std.proofs.lemmas.Result.{IfOk-weaker}
use Rattle.byte_streams.specs.Reading.{WasRead}
use Rattle.replay_folder.proofs.TakenRoundLaws.{none_closed, some_closed}
use Rattle.replay_folder.proofs.taken_round.close_taken.Goals as goal

pub returns-then-is_empty : goal.returns-then-is_empty
returns-then-is_empty g c =
    none_closed (WasRead g.F.Source.answers g.F.Read.remaining) c.args.round _ (nil_from_length c.args.round.own.clients.entries (c.is_empty.ensures.0 c.if-is_empty.true)) refl refl c.in_ok-ends.ensures

pub returns : goal.returns
returns g c =
    IfOk-weaker c.put_round.result _ _
    (λ taken put. some_closed (WasRead g.F.Source.answers g.F.Read.remaining) c.args.round taken (λ none. true≢false (sym (c.is_empty.ensures.1 (ap length none)) ∙ c.if-is_empty.false)) put)
    c.put_round.ensures

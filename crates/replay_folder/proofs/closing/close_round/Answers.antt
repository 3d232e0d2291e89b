use Rattle.std.proofs.Common.{◌≡◌, ◌==◌, true, true≢false, inl, inr, refl, sym, ◌∙◌, rules, arith}
use Rattle.std.proofs.lemmas.Bool.{eqb-true}
use Rattle.std.proofs.lemmas.List.{nil_from_length}
use Rattle.std.proofs.lemmas.Result.{IfOk-weaker}
use Rattle.std.specs.Vec.{vec_len}
use Rattle.byte_streams.specs.Reading.{WasRead}
use Rattle.warp_run.specs.declared.status.Status.TheVariants.{Done}
use Rattle.replay_folder.proofs.ClosingLaws.{nothing_closed, round_closed}
use Rattle.replay_folder.proofs.closing.close_round.Goals as goal

pub returns-then-is_empty : goal.returns-then-is_empty
returns-then-is_empty g c =
    let size = eqb-true c.args.round.uploads.len 0 (sym c.is_empty.ensures ∙ c.if-is_empty.true) in
    let none = nil_from_length c.args.round.uploads.items (omega (arith, size, c.args.round.uploads.ok.0)) in
    nothing_closed (WasRead g.F.Source.answers g.F.Read.remaining) c.args.quota c.args.round _ c.requires.held none refl refl c.in_ok-ends.ensures

pub take_own-requires-clause-some : goal.take_own-requires-clause-some
take_own-requires-clause-some g c κs within = λ none.
    let is : (vec_len c.args.round.uploads == 0) ≡ true = search (rules, none) in true≢false (sym is ∙ sym c.is_empty.ensures ∙ c.if-is_empty.false)

pub returns : goal.returns
returns g c =
    let whole : c.args.round.taken.status ≡ Done = elim c.requires.whole [
      | inl done ↦ done
      | inr none ↦ let is : (vec_len c.args.round.uploads == 0) ≡ true = search (rules, none) in absurd (true≢false (sym is ∙ sym c.is_empty.ensures ∙ c.if-is_empty.false))
    ] in
    IfOk-weaker c.put_round.result _ _
    (λ taken put. round_closed (WasRead g.F.Source.answers g.F.Read.remaining) c.args.quota c.args.round taken c.requires.held c.in_ok-own.own _ whole c.in_ok-own.ensures.own c.in_ok-own.ensures.others put)
    c.put_round.ensures

use Rattle.std.proofs.Common.{ℕ, ◌<◌, List, length, set, arith}
use Rattle.std.proofs.lemmas.List.{length-set}
use Rattle.std.proofs.lemmas.Option.{slice_get-get_or}
use Rattle.lanes_in_turn.proofs.RoundLaws.{few_set, together_set, lanes_past, lanes_more, lanes_refused}
use Rattle.lanes_in_turn.proofs.LaneSteps.{on_ok, on_err}
use Rattle.lanes_in_turn.proofs.in_turn.take_at.Goals as goal

within_set : {X : Type 0} (xs : List X) (k : ℕ) (x : X) → k < length xs → k < length (set xs k x)
within_set xs k x within = let size = length-set xs k x in omega (arith, size, within)

pub returns-then-k-lanes-clause-goes : goal.returns-then-k-lanes-clause-goes
returns-then-k-lanes-clause-goes g c = λ known quota uploads asked are. lanes_past known quota uploads asked c.args.k c.args.lanes.now c.if-k-lanes.true are

pub take_next-requires-clause-few : goal.take_next-requires-clause-few
take_next-requires-clause-few g c = λ κs within.
    c.requires.few c.args.k _ (slice_get-get_or c.args.lanes.now c.args.k c.index-lanes-k.result c.if-k-lanes.false)

pub take_next-requires-clause-together : goal.take_next-requires-clause-together
take_next-requires-clause-together g c = λ κs within.
    c.requires.together c.args.k _ (slice_get-get_or c.args.lanes.now c.args.k c.index-lanes-k.result c.if-k-lanes.false)

pub returns-clause-together : goal.returns-clause-together
returns-clause-together g c = on_ok c.take_next.result _ (λ ok. together_set c.args.lanes.now c.args.k _ c.if-k-lanes.false c.requires.together (ok _ c.take_next.ensures.together))

pub returns-clause-few : goal.returns-clause-few
returns-clause-few g c = few_set c.args.lanes.now c.args.k _ c.if-k-lanes.false c.requires.few c.take_next.ensures.few

pub returns-clause-goes : goal.returns-clause-goes
returns-clause-goes g c =
    let at = slice_get-get_or c.args.lanes.now c.args.k c.index-lanes-k.result c.if-k-lanes.false in
    on_ok c.take_next.result _ (λ ok known quota uploads asked are. lanes_more known quota uploads asked c.args.lanes.now c.args.k _ c.take_next.new.self at are (λ before begun was. ok _ (c.take_next.ensures.goes before begun (asked c.args.k) was)))

pub returns-clause-refused : goal.returns-clause-refused
returns-clause-refused g c =
    let at = slice_get-get_or c.args.lanes.now c.args.k c.index-lanes-k.result c.if-k-lanes.false in
    on_err c.take_next.result _ (λ err known quota uploads asked are. lanes_refused known quota uploads asked c.args.lanes.now c.args.k _ c.take_next.new.self at are (λ before begun was. err _ (c.take_next.ensures.refused before begun (asked c.args.k) was)))

pub returns-clause-there : goal.returns-clause-there
returns-clause-there g c = on_err c.take_next.result _ (λ err. within_set c.args.lanes.now c.args.k _ c.if-k-lanes.false)

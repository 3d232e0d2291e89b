use Rattle.std.proofs.Common.{arith, ◌≡◌, true, false, subst, sym, ◌∙◌}
use Rattle.std.specs.Result.{is_err}
use Rattle.lanes_in_turn.proofs.AloneLaws.{few, few_items, goes_on, has_upload, sets_out, stops_asked, stops_none, stops_refused, takes_so}
use Rattle.lanes_in_turn.proofs.FreshLaws.{together_begun}
use Rattle.lanes_in_turn.proofs.LaneSteps.{when_err, when_ok}
use Rattle.lanes_in_turn.proofs.Counts.{fits_more}
use Rattle.lanes_in_turn.proofs.alone.take_alone.Goals as goal

pub loop-init : goal.loop-init
loop-init g c = (tt, tt, sets_out (g.H.Halt.allows c.args.halt.now) c.args.lane.now c.requires.fresh, together_begun c.args.lane.now c.requires.fresh)

pub returns-then-is_some-clause-taken : goal.returns-then-is_some-clause-taken
returns-then-is_some-clause-taken g c =
    let way = c.loop.invariant.2 in
    takes_so (g.H.Halt.allows c.args.halt.now) c.args.lane.now c.loop.lane c.loop.items way c.loop.lane.1 0 way.in_turn

pub returns-then-is_some-clause-stops : goal.returns-then-is_some-clause-stops
returns-then-is_some-clause-stops g c = stops_none (g.H.Halt.allows c.args.halt.now) c.args.lane.now c.loop.lane c.loop.items c.loop.invariant.2 (sym c.is_some.ensures ∙ c.if-is_some.true)

pub ask-requires : goal.ask-requires
ask-requires g c = c.requires.halt c.loop.items (few_items (g.H.Halt.allows c.args.halt.now) c.args.lane.now c.loop.lane c.loop.items c.loop.invariant.2)

pub returns-then-ask-clause-taken : goal.returns-then-ask-clause-taken
returns-then-ask-clause-taken g c =
    let way = c.loop.invariant.2 in
    takes_so (g.H.Halt.allows c.args.halt.now) c.args.lane.now c.loop.lane c.loop.items way c.loop.lane.1 0 way.in_turn

pub returns-then-ask-clause-stops : goal.returns-then-ask-clause-stops
returns-then-ask-clause-stops g c =
    let allows = g.H.Halt.allows c.args.halt.now in
    stops_asked allows c.args.lane.now c.loop.lane c.loop.items c.loop.invariant.2 (sym c.is_some.ensures ∙ c.if-is_some.false) (subst (allows c.loop.items) c.if-ask.true c.ask.ensures)

pub take_next-requires-clause-few : goal.take_next-requires-clause-few
take_next-requires-clause-few g c = λ κs within. few (g.H.Halt.allows c.args.halt.now) c.args.lane.now c.loop.lane c.loop.items c.loop.invariant.2

pub take_next-requires-clause-together : goal.take_next-requires-clause-together
take_next-requires-clause-together g c = λ κs within. c.loop.invariant.3

pub returns-then-is_err-clause-taken : goal.returns-then-is_err-clause-taken
returns-then-is_err-clause-taken g c =
    let err : is_err c.take_next.result ≡ true = sym c.is_err.ensures.value ∙ c.if-is_err.true in
    let way = c.loop.invariant.2 in
    let turn = when_err c.take_next.result _ err (c.take_next.ensures.refused c.args.lane.now.1.log way.begun c.loop.items way.in_turn) in
    takes_so (g.H.Halt.allows c.args.halt.now) c.args.lane.now c.loop.lane c.loop.items way c.take_next.new.self 1 turn

pub returns-then-is_err-clause-stops : goal.returns-then-is_err-clause-stops
returns-then-is_err-clause-stops g c =
    let allows = g.H.Halt.allows c.args.halt.now in
    let err : is_err c.take_next.result ≡ true = sym c.is_err.ensures.value ∙ c.if-is_err.true in
    let way = c.loop.invariant.2 in
    let turn = when_err c.take_next.result _ err (c.take_next.ensures.refused c.args.lane.now.1.log way.begun c.loop.items way.in_turn) in
    let same = when_err c.take_next.result _ err c.take_next.ensures.same in
    stops_refused allows c.args.lane.now c.loop.lane c.loop.items way c.take_next.new.self turn same.0 same.1 (sym c.is_some.ensures ∙ c.if-is_some.false)
    (subst (allows c.loop.items) c.if-ask.false c.ask.ensures)

pub overflow_add-items : goal.overflow_add-items
overflow_add-items g c =
    let few = few_items (g.H.Halt.allows c.args.halt.now) c.args.lane.now c.loop.lane c.loop.items c.loop.invariant.2 in
    fits_more c.loop.items (omega (arith, few))

pub loop-preserved : goal.loop-preserved
loop-preserved g c =
    let allows = g.H.Halt.allows c.args.halt.now in
    let ok : is_err c.take_next.result ≡ false = sym c.is_err.ensures.value ∙ c.if-is_err.false in
    let way = c.loop.invariant.2 in
    let turn = when_ok c.take_next.result _ ok (c.take_next.ensures.goes c.args.lane.now.1.log way.begun c.loop.items way.in_turn) in
    let going = sym c.is_some.ensures ∙ c.if-is_some.false in
    let count = when_ok c.take_next.result _ ok (c.take_next.ensures.count (has_upload allows c.args.lane.now c.loop.lane c.loop.items way) going) in
    (tt, tt, goes_on allows c.args.lane.now c.loop.lane c.loop.items way c.take_next.new.self turn count (subst (allows c.loop.items) c.if-ask.false c.ask.ensures), when_ok c.take_next.result _ ok c.take_next.ensures.together)

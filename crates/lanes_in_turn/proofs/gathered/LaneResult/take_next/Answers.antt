use Rattle.std.proofs.Common.{◌≡◌, ◌+◌, Some, None, refl, subst, sym, ◌∙◌}
use Rattle.upload_reader.specs.Session.{session_fault}
use Rattle.upload_reader.specs.declared.ending.Ending.TheVariants as ending
use Rattle.lanes_in_turn.proofs.LaneSteps.{together_more, together_still, stays, took, refused, ended, if_err}
use Rattle.lanes_in_turn.proofs.gathered.LaneResult.take_next.Goals as goal

pub returns-then-is_some-clause-goes : goal.returns-then-is_some-clause-goes
returns-then-is_some-clause-goes g c = λ before begun asked h. stays before begun asked c.args.self.now h (sym c.is_some.ensures ∙ c.if-is_some.true)

pub returns-in_err-record_next-in-Got-clause-refused : goal.returns-in_err-record_next-in-Got-clause-refused
returns-in_err-record_next-in-Got-clause-refused g c = λ before begun asked h.
    if_err c.from_residual.result _
    (refused before begun asked c.args.self.now h c.in-Some.upload c.next.new.self c.in-Some.is (sym c.is_some.ensures ∙ c.if-is_some.false) c.next.ensures.reads c.next.ensures.first c.next.ensures.few
    (c.in-Got.message, c.in-Got.cost) c.record_next.new.self c.in-Got.ensures.given c.in_err-record_next-in-Got.ensures.same)

pub returns-in_ok-record_next-in-Got-clause-goes : goal.returns-in_ok-record_next-in-Got-clause-goes
returns-in_ok-record_next-in-Got-clause-goes g c = λ before begun asked h.
    let lawful = subst (λ session. session_fault session c.in-Got.message ≡ None) (sym (c.requires.together c.in-Some.upload c.in-Some.is)) c.in-Got.ensures.lawful in
    took before begun asked c.args.self.now h c.in-Some.upload c.next.new.self c.in-Some.is (sym c.is_some.ensures ∙ c.if-is_some.false) c.next.ensures.reads c.next.ensures.first c.next.ensures.few
    (c.in-Got.message, c.in-Got.cost) c.record_next.new.self c.in-Got.ensures.given c.in_ok-record_next-in-Got.ensures.client c.in_ok-record_next-in-Got.ensures.quota c.in_ok-record_next-in-Got.ensures.kept (c.in_ok-record_next-in-Got.ensures.goes_on lawful)

pub returns-in_ok-record_next-in-Got-clause-together : goal.returns-in_ok-record_next-in-Got-clause-together
returns-in_ok-record_next-in-Got-clause-together g c =
    let lawful = subst (λ session. session_fault session c.in-Got.message ≡ None) (sym (c.requires.together c.in-Some.upload c.in-Some.is)) c.in-Got.ensures.lawful in
    together_more c.args.self.now (record { log = c.record_next.new.self; taken = c.args.self.now.taken + 1; end = c.args.self.now.end; upload = Some c.next.new.self }) c.in-Some.upload c.next.new.self (c.in-Got.message, c.in-Got.cost) c.requires.together c.in-Some.is refl c.in-Got.ensures.given (c.in_ok-record_next-in-Got.ensures.session lawful)

pub returns-in-Over-clause-together : goal.returns-in-Over-clause-together
returns-in-Over-clause-together g c =
    together_still c.args.self.now (record { log = c.args.self.now.log; taken = c.args.self.now.taken; end = Some (ending.Over c.in-Over.end); upload = Some c.next.new.self }) c.in-Some.upload c.next.new.self (Some (ending.Over c.in-Over.end)) c.requires.together c.in-Some.is refl c.in-Over.ensures.given refl

pub returns-in-GaveUp-clause-together : goal.returns-in-GaveUp-clause-together
returns-in-GaveUp-clause-together g c =
    together_still c.args.self.now (record { log = c.args.self.now.log; taken = c.args.self.now.taken; end = Some ending.GaveUp; upload = Some c.next.new.self }) c.in-Some.upload c.next.new.self (Some ending.GaveUp) c.requires.together c.in-Some.is refl c.in-GaveUp.ensures.given refl

pub returns-in-Over-clause-goes : goal.returns-in-Over-clause-goes
returns-in-Over-clause-goes g c = λ before begun asked h.
    ended before begun asked c.args.self.now h c.in-Some.upload c.next.new.self c.in-Some.is (sym c.is_some.ensures ∙ c.if-is_some.false) c.next.ensures.reads c.next.ensures.first c.next.ensures.few
    (ending.Over c.in-Over.end) c.in-Over.ensures.given c.in-Over.ensures.over

pub returns-in-GaveUp-clause-goes : goal.returns-in-GaveUp-clause-goes
returns-in-GaveUp-clause-goes g c = λ before begun asked h.
    ended before begun asked c.args.self.now h c.in-Some.upload c.next.new.self c.in-Some.is (sym c.is_some.ensures ∙ c.if-is_some.false) c.next.ensures.reads c.next.ensures.first c.next.ensures.few
    ending.GaveUp c.in-GaveUp.ensures.given tt

use Rattle.std.proofs.Common.{take, subst, rules, arith}
use Rattle.std.proofs.lemmas.List.{take_all}
use Rattle.std.proofs.lemmas.Result.{IfOk-weaker}
use Rattle.byte_streams.specs.Reading.{WasRead}
use Rattle.replay_folder.specs.inside.{HasTakenSoFar}
use Rattle.replay_folder.proofs.TakenFilesLaws.{first_taking, may_close, taking_closed}
use Rattle.replay_folder.proofs.taking.take_files.Goals as goal

pub loop-taken-init : goal.loop-taken-init
loop-taken-init g c =
    let first = c.first_round.ensures in record {
      within = omega arith;
      taking = first_taking (WasRead g.F.Source.answers g.F.Read.remaining) (g.O.OpensUploads.opened c.args.opener.now) c.args.quota c.first_round.result first.clients first.stop first.ends first.status first.held first.uploads;
      few = rw first.uploads (omega arith);
    }

pub close_round-requires-clause-ready : goal.close_round-requires-clause-ready
close_round-requires-clause-ready g c κs within = c.loop-taken.invariant.taking.ready

pub close_round-requires-clause-held : goal.close_round-requires-clause-held
close_round-requires-clause-held g c κs within = c.loop-taken.invariant.taking.are

pub close_round-requires-clause-whole : goal.close_round-requires-clause-whole
close_round-requires-clause-whole g c κs within =
    may_close (WasRead g.F.Source.answers g.F.Read.remaining) (g.O.OpensUploads.opened c.args.opener.now) c.args.quota _ c.loop-taken.taken.round c.loop-taken.invariant.taking

pub returns : goal.returns
returns g c =
    let was_read = WasRead g.F.Source.answers g.F.Read.remaining in let opened = g.O.OpensUploads.opened c.args.opener.now in
    let next = c.loop-taken.taken.next in
    let all = take_all next c.args.named.now (search rules) in
    IfOk-weaker c.close_round.result _ _
    (λ taken closes. subst (λ named. HasTakenSoFar was_read opened c.args.quota named taken) all
    (taking_closed was_read opened c.args.quota (take next c.args.named.now) c.loop-taken.taken.round taken closes c.loop-taken.invariant.taking))
    c.close_round.ensures

use Rattle.std.proofs.Common.{◌<◌, length, [], ◌∷◌, ◌++◌, take, sym, subst, arith}
use Rattle.byte_streams.specs.Reading.{WasRead}
use Rattle.replay_folder.specs.inside.{IsTaking}
use Rattle.replay_folder.proofs.TakenFilesLaws.{may_close, take_here, taking_room}
use Rattle.replay_folder.proofs.taking.take_one.Goals as goal

pub take_named-requires-clause-ready : goal.take_named-requires-clause-ready
take_named-requires-clause-ready g c κs within = c.requires.upto.taking.ready

pub take_named-requires-clause-held : goal.take_named-requires-clause-held
take_named-requires-clause-held g c κs within = c.requires.upto.taking.are

pub take_named-requires-clause-few : goal.take_named-requires-clause-few
take_named-requires-clause-few g c κs within = c.requires.upto.few

pub close_full-requires-clause-ready : goal.close_full-requires-clause-ready
close_full-requires-clause-ready g c κs within = (c.in_ok-more.ensures (take c.args.taken.next c.args.named.now) c.requires.upto.taking).ready

pub close_full-requires-clause-held : goal.close_full-requires-clause-held
close_full-requires-clause-held g c κs within = (c.in_ok-more.ensures (take c.args.taken.next c.args.named.now) c.requires.upto.taking).are

pub close_full-requires-clause-whole : goal.close_full-requires-clause-whole
close_full-requires-clause-whole g c κs within =
    may_close (WasRead g.F.Source.answers g.F.Read.remaining) (g.O.OpensUploads.opened c.args.opener.now) c.args.quota _ c.in_ok-more.more
    (c.in_ok-more.ensures (take c.args.taken.next c.args.named.now) c.requires.upto.taking)

pub returns-clause-behind : goal.returns-clause-behind
returns-clause-behind g c =
    let was_read = WasRead g.F.Source.answers g.F.Read.remaining in let opened = g.O.OpensUploads.opened c.args.opener.now in
    let before = take c.args.taken.next c.args.named.now in
    let below : c.args.taken.next < length c.args.named.now = omega arith in
    let here = take_here c.args.named.now c.args.taken.next c.index-named-next.result below c.index-named-next.is in record {
      within = omega arith;
      taking = subst (λ named. IsTaking was_read opened c.args.quota named c.in_ok-close_full.field-0) (sym here)
          (taking_room was_read opened c.args.quota (before ++ c.index-named-next.result ∷ []) c.in_ok-more.more c.in_ok-close_full.field-0 c.in_ok-close_full.ensures.made (c.in_ok-more.ensures before c.requires.upto.taking));
      few = c.in_ok-close_full.ensures.few;
    }

use Rattle.std.proofs.Common.{◌-◌, ◌≤◌, ◌++◌, length, take, drop, sym, subst, arith, length-drop}
use Rattle.std.proofs.lemmas.List.{take_all}
use Rattle.byte_streams.specs.Reading.{WasRead}
use Rattle.replay_folder.specs.inside.{IsTaking}
use Rattle.replay_folder.proofs.TellingLaws.{take_both}
use Rattle.replay_folder.proofs.taking.take_ahead.Goals as goal

pub returns-clause-behind : goal.returns-clause-behind
returns-clause-behind g c =
    let was_read = WasRead g.F.Source.answers g.F.Read.remaining in let opened = g.O.OpensUploads.opened c.args.opener.now in
    let named = c.args.named.now in let next = c.args.taken.next in
    let more = c.in_ok-round.round in let count = c.in_ok-round.count in
    let left = length-drop next named in
    let whole = take_all (length named - next) (drop next named) (omega (arith, left)) in
    let taken = subst (λ names. IsTaking was_read opened c.args.quota (take next named ++ take count names) more) whole (c.in_ok-round.ensures.taken (take next named) c.requires.taking) in
    let few = subst (λ names. count ≤ length names) whole c.in_ok-round.ensures.count in record {
      within = omega (arith, few, left, c.requires.within);
      taking = subst (λ names. IsTaking was_read opened c.args.quota names more) (sym (take_both named next count c.requires.within)) taken;
      few = c.in_ok-round.ensures.few;
    }

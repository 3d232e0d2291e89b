use Rattle.std.proofs.Common.{◌<◌, length, ap, ◌∙◌, arith}
use Rattle.std.proofs.lemmas.List.Elements.{All-set}
use Rattle.warp_run.specs.inside.Telling.{IsTold, as_pair}
use Rattle.warp_run.proofs.RepairLaws.{set_alike}
use Rattle.warp_run.proofs.telling.tell_one.Goals as goal

pub returns-in_err-tell-clause-pairs : goal.returns-in_err-tell-clause-pairs
returns-in_err-tell-clause-pairs g c =
    let there : c.args.index < length c.args.own.now.items = omega (arith, c.if-index-len.true, c.len.ensures, c.args.own.now.ok) in
    set_alike as_pair c.args.own.now.items c.args.index c.tell.new.one c.index_mut.result.now there (c.tell.ensures.pair ∙ ap as_pair c.index_mut.ensures.value)

pub returns-in_err-tell-clause-told : goal.returns-in_err-tell-clause-told
returns-in_err-tell-clause-told g c =
    All-set (IsTold (g.H.SiteLaw.page_of c.args.hooks.now) c.args.finding.now) c.args.own.now.items c.args.index c.tell.new.one c.tell.ensures.told c.requires.told

pub returns-in_ok-tell-clause-pairs : goal.returns-in_ok-tell-clause-pairs
returns-in_ok-tell-clause-pairs g c =
    let there : c.args.index < length c.args.own.now.items = omega (arith, c.if-index-len.true, c.len.ensures, c.args.own.now.ok) in
    set_alike as_pair c.args.own.now.items c.args.index c.tell.new.one c.index_mut.result.now there (c.tell.ensures.pair ∙ ap as_pair c.index_mut.ensures.value)

pub returns-in_ok-tell-clause-told : goal.returns-in_ok-tell-clause-told
returns-in_ok-tell-clause-told g c =
    All-set (IsTold (g.H.SiteLaw.page_of c.args.hooks.now) c.args.finding.now) c.args.own.now.items c.args.index c.tell.new.one c.tell.ensures.told c.requires.told

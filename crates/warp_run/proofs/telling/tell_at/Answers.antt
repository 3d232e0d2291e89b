use Rattle.std.proofs.Common.{◌<◌, Vec, Global, length, ap, ◌∙◌, arith}
use Rattle.std.proofs.lemmas.List.Elements.{All-set}
use Rattle.warp_run.specs.inside.Telling.{AreTold, as_pairs}
use Rattle.warp_run.specs.declared.telling.ToldVisit.{ToldVisit}
use Rattle.warp_run.proofs.RepairLaws.{set_alike}
use Rattle.warp_run.proofs.telling.tell_at.Goals as goal

pub returns-in_err-tell_one-clause-pairs : goal.returns-in_err-tell_one-clause-pairs
returns-in_err-tell_one-clause-pairs g c =
    let there : c.args.client < length c.args.all.now.items = omega (arith, c.if-client-len.true, c.len.ensures, c.args.all.now.ok) in
    set_alike as_pairs c.args.all.now.items c.args.client c.tell_one.new.own c.index_mut.result.now there (c.tell_one.ensures.pairs ∙ ap as_pairs c.index_mut.ensures.value)

pub returns-in_err-tell_one-clause-told : goal.returns-in_err-tell_one-clause-told
returns-in_err-tell_one-clause-told g c =
    All-set (λ (own : Vec ToldVisit Global). AreTold (g.H.SiteLaw.page_of c.args.hooks.now) c.args.finding.now own.items) c.args.all.now.items c.args.client c.tell_one.new.own c.tell_one.ensures.told c.requires.told

pub returns-in_ok-tell_one-clause-pairs : goal.returns-in_ok-tell_one-clause-pairs
returns-in_ok-tell_one-clause-pairs g c =
    let there : c.args.client < length c.args.all.now.items = omega (arith, c.if-client-len.true, c.len.ensures, c.args.all.now.ok) in
    set_alike as_pairs c.args.all.now.items c.args.client c.tell_one.new.own c.index_mut.result.now there (c.tell_one.ensures.pairs ∙ ap as_pairs c.index_mut.ensures.value)

pub returns-in_ok-tell_one-clause-told : goal.returns-in_ok-tell_one-clause-told
returns-in_ok-tell_one-clause-told g c =
    All-set (λ (own : Vec ToldVisit Global). AreTold (g.H.SiteLaw.page_of c.args.hooks.now) c.args.finding.now own.items) c.args.all.now.items c.args.client c.tell_one.new.own c.tell_one.ensures.told c.requires.told

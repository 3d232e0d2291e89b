use Rattle.std.proofs.Common.{◌<◌, ◌∙◌, arith}
use Rattle.std.proofs.lemmas.List.Elements.{All-from_get_or}
use Rattle.visit_replay.proofs.FreshValues.{named_so}
use Rattle.visit_replay.proofs.senders.is_among.Goals as goal

pub returns : goal.returns
returns c = λ value.
    let name = c.args.name.now in
    let small = All-from_get_or (λ b. b < 256) name 0 (λ i within. omega (arith, c.type_inv.name i)) in
    c.is_one_of.ensures ∙ named_so c.args.names.now name value c.utf8.name small

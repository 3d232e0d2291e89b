use Rattle.std.proofs.Common.{◌≡◌, ap, sym, subst, ◌∙◌}
use Rattle.std.specs.Prelude.{IfOk, is_some}
use Rattle.upload_reader.specs.inside.Counting.{IsHeader}
use Rattle.upload_reader.proofs.Counting.{above_all, follows_load, is_open, seen_fault, stands_removed}
use Rattle.upload_reader.proofs.session.follow.Goals as goal

pub returns-in-Load-clause-kept : goal.returns-in-Load-clause-kept
returns-in-Load-clause-kept c =
    let (at, from, address, page, is) = subst (λ s. IsHeader c.header.inside.visit s c.header.inside.message.value) c.in-Load.is c.header.invariant in
    follows_load c.follow_load.new.loaded.items c.follow_load.new.unended c.follow_load.result c.requires.stands (sym c.header.view_is ∙ is) c.follow_load.ensures.above c.follow_load.ensures.visit c.follow_load.ensures.counts c.follow_load.ensures.count

pub returns-in-Load-clause-lawful : goal.returns-in-Load-clause-lawful
returns-in-Load-clause-lawful c = λ lawful.
    let same = seen_fault c.args._earlier.now.items c.header.inside.visit c.in-Load.is c.header.view_is c.header.invariant in
    subst (λ all. IfOk c.follow_load.result (λ kept. kept ≡ all)) (above_all c.args._earlier.now.items c.header.inside.visit c.in-Load.parent (sym same ∙ lawful)) c.follow_load.ensures.above

pub returns-in-Act-clause-lawful : goal.returns-in-Act-clause-lawful
returns-in-Act-clause-lawful c = λ lawful.
    let same = seen_fault c.args._earlier.now.items c.header.inside.visit c.in-Act.is c.header.view_is c.header.invariant in
    c.follow_event.ensures.lawful (sym same ∙ lawful)

pub returns-in-End-clause-kept : goal.returns-in-End-clause-kept
returns-in-End-clause-kept c = λ some.
    let (at, is) = subst (λ s. IsHeader c.header.inside.visit s c.header.inside.message.value) c.in-End.is c.header.invariant in
    stands_removed c.requires.stands c.remove.result (sym c.header.view_is ∙ is) (sym c.is_some.ensures ∙ some) c.remove.ensures.updates c.remove.ensures.value c.remove.ensures.len

pub returns-in-End-clause-lawful : goal.returns-in-End-clause-lawful
returns-in-End-clause-lawful c = λ lawful.
    let same = seen_fault c.args._earlier.now.items c.header.inside.visit c.in-End.is c.header.view_is c.header.invariant in
    c.is_some.ensures ∙ ap is_some c.remove.ensures.value ∙ is_open c.args._earlier.now.items c.header.inside.visit c.requires.stands (sym same ∙ lawful)

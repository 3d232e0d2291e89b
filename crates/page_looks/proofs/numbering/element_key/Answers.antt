use Rattle.std.proofs.Common.{◌∷◌, []}
use Rattle.page_tree.specs.Tree.{element}
use Rattle.page_tree.specs.Number.{place_numbered}
use Rattle.page_tree.specs.inside.Kept.{attributes_at, children_at}
use Rattle.page_looks.specs.inside.Told.{told_by}
use Rattle.page_looks.specs.inside.Shapes.{told_texts}
use Rattle.page_looks.proofs.NumberingLaws.{texts_join}
use Rattle.page_looks.proofs.FormLaws.{ready_grown, begun_long, counted}
use Rattle.page_looks.proofs.numbering.element_key.Goals as goal

pub push_telling-requires-clause-ready : goal.push_telling-requires-clause-ready
push_telling-requires-clause-ready c =
    ready_grown c.args.telling.now c.args.below.now c.args.own.now c.begin_key.new.own (0 ∷ []) c.in_ok-key.key.items (c.args.name.now ∷ []) c.args.page.now
    c.in_ok-key.ensures c.requires.ready

pub count_told-requires : goal.count_told-requires
count_told-requires c =
    begun_long c.args.below.now c.args.own.now c.begin_key.new.own c.push_telling.new.own c.in_ok-key.key.items c.push_telling.new.key.items _ _
    c.in_ok-key.ensures c.in_ok-push_telling.ensures

pub returns : goal.returns
returns c =
    let place = place_numbered c.args.number c.args.page.now in
    let told = told_by c.args.telling.now (element c.args.name.now (attributes_at place c.args.page.now) (children_at place c.args.page.now)) in
    counted c.args.below.now c.args.own.now c.push_telling.new.own c.push_telling.new.key.items c.count_told.new.key.items c.args.name.now told
    (texts_join c.args.below.now c.args.own.now c.begin_key.new.own c.push_telling.new.own (0 ∷ []) c.in_ok-key.key.items c.push_telling.new.key.items
    (c.args.name.now ∷ []) (told_texts told) c.in_ok-key.ensures c.in_ok-push_telling.ensures)
    c.in_ok-count_told.ensures

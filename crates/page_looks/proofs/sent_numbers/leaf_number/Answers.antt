use Rattle.std.proofs.Common.{◌∷◌, [], refl}
use Rattle.page_tree.specs.Number.{place_numbered}
use Rattle.page_looks.specs.Counterpart.{sent_at}
use Rattle.page_looks.specs.inside.Shapes.{told_texts}
use Rattle.page_looks.specs.declared.shapes.Shapes.{Shapes}
use Rattle.page_looks.proofs.NumberingLaws.{texts_join}
use Rattle.page_looks.proofs.FormLaws.{in_forms_grown, begun_long, counted}
use Rattle.page_looks.proofs.SentLaws.{leaf_numbered}
use Rattle.page_looks.proofs.sent_numbers.leaf_number.Goals as goal

pub push_leaf-requires : goal.push_leaf-requires
push_leaf-requires c =
    in_forms_grown c.args.below.now c.args.own.now c.begin_key.new.own (0 ∷ []) c.in_ok-key.key.items ([] ∷ []) c.args.fresh.now c.args.page.now c.args.in_forms.now
    c.in_ok-key.ensures c.requires

pub count_told-requires : goal.count_told-requires
count_told-requires c =
    begun_long c.args.below.now c.args.own.now c.begin_key.new.own c.push_leaf.new.own c.in_ok-key.key.items c.push_leaf.new.key.items _ _
    c.in_ok-key.ensures c.in_ok-push_leaf.ensures

pub returns-clause-leaf : goal.returns-clause-leaf
returns-clause-leaf c =
    let told = sent_at c.args.fresh.now c.args.page.now (place_numbered c.args.number c.args.page.now) in
    let new : Shapes = record { texts = c.push_leaf.new.own.texts; keys = c.key_number.new.own } in
    leaf_numbered c.args.below.now c.args.own.now c.push_leaf.new.own new told c.count_told.new.key.items c.in_ok-leaf.leaf
    (counted c.args.below.now c.args.own.now c.push_leaf.new.own c.push_leaf.new.key.items c.count_told.new.key.items [] told
    (texts_join c.args.below.now c.args.own.now c.begin_key.new.own c.push_leaf.new.own (0 ∷ []) c.in_ok-key.key.items c.push_leaf.new.key.items
    ([] ∷ []) (told_texts told) c.in_ok-key.ensures c.in_ok-push_leaf.ensures)
    c.in_ok-count_told.ensures) c.in_ok-leaf.ensures refl

pub returns-clause-in_forms : goal.returns-clause-in_forms
returns-clause-in_forms c =
    in_forms_grown c.args.below.now c.begin_key.new.own c.push_leaf.new.own c.in_ok-key.key.items c.push_leaf.new.key.items _ c.args.fresh.now c.args.page.now
    c.args.in_forms.now c.in_ok-push_leaf.ensures
    (in_forms_grown c.args.below.now c.args.own.now c.begin_key.new.own (0 ∷ []) c.in_ok-key.key.items ([] ∷ []) c.args.fresh.now c.args.page.now c.args.in_forms.now
    c.in_ok-key.ensures c.requires)

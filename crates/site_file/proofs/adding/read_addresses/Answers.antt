use Rattle.std.proofs.lemmas.Result.{err_from_is_err_and}
use Rattle.json_document.specs.Standing.{data_of, items_behind}
use Rattle.site_file.specs.Addition.{address_item}
use Rattle.site_file.proofs.ItemsLaws.{items_begun, item_next, item_wrong, items_done}
use Rattle.site_file.proofs.adding.read_addresses.Goals as goal

pub loop-item-init : goal.loop-item-init
loop-item-init c = rw c.new-all.ensures.items (items_begun address_item (items_behind c.args.items))

pub loop-item-preserved : goal.loop-item-preserved
loop-item-preserved c =
    rw c.in_ok-push.ensures.items
    (item_next address_item c.loop-item.all.items (data_of c.in-Some.item) c.in_ok-read_address.field-0 (items_behind c.loop-item.items) (items_behind c.next.new.self) (items_behind c.args.items)
    c.in-Some.ensures.value c.in_ok-read_address.ensures c.loop-item.invariant)

pub returns-in_err-read_address : goal.returns-in_err-read_address
returns-in_err-read_address c =
    let p = err_from_is_err_and c.from_residual.result c.from_residual.ensures.1 in
    rw (p.1, p.2)
    (item_wrong address_item c.in_err-read_address.field-0.0 (λ one. one) c.loop-item.all.items (data_of c.in-Some.item) (items_behind c.loop-item.items) (items_behind c.next.new.self) (items_behind c.args.items)
    c.in-Some.ensures.value c.in_err-read_address.ensures c.loop-item.invariant)

pub returns : goal.returns
returns c = items_done address_item c.loop-item.all.items (items_behind c.loop-item.items) (items_behind c.args.items) c.in_default.ensures.value c.loop-item.invariant

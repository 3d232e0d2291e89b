use Rattle.std.proofs.Common.{◌++◌, sym, ◌∙◌, ap, append-nil}
use Rattle.page_tree.specs.Look.{node_at}
use Rattle.page_tree.specs.Number.{place_numbered}
use Rattle.page_tree.specs.declared.control.Control.TheVariants as control
use Rattle.page_tree.specs.inside.Kept.{attributes_at}
use Rattle.page_looks.specs.inside.Told.{told_seen}
use Rattle.page_looks.proofs.SendingLaws.{control_there, control_told, told_unless_text}
use Rattle.page_looks.proofs.sending.tell_control.Goals as goal

pub returns-in-Text : goal.returns-in-Text
returns-in-Text c = λ name named.
    let place = place_numbered c.args.number c.args.page.now in
    control_told c.args.fresh.now name (attributes_at place c.args.page.now) control.Text (told_seen c.args.told.now.items) (told_seen c.tell.new.told.items)
    (told_seen c.tell-2.new.told.items) (told_seen c.tell_address.new.told.items) (told_seen c.tell_address.new.told.items)
    (c.in-Text.ensures ∙ control_there (node_at place c.args.page.now) name named) c.in_ok-tell.ensures c.in_ok-tell-2.ensures c.in_ok-tell_address.ensures
    (sym (append-nil (told_seen c.tell_address.new.told.items)))

pub returns-in_ok-tell-in_default : goal.returns-in_ok-tell-in_default
returns-in_ok-tell-in_default c = λ name named.
    let place = place_numbered c.args.number c.args.page.now in
    let told = told_seen c.tell_address.new.told.items in
    control_told c.args.fresh.now name (attributes_at place c.args.page.now) c.control_of.result (told_seen c.args.told.now.items) (told_seen c.tell.new.told.items)
    (told_seen c.tell-2.new.told.items) told (told_seen c.tell-in_default.new.told.items)
    (c.control_of.ensures ∙ control_there (node_at place c.args.page.now) name named) c.in_ok-tell.ensures c.in_ok-tell-2.ensures c.in_ok-tell_address.ensures
    (c.in_ok-tell-in_default.ensures ∙ ap (λ l. told ++ l) (sym (told_unless_text c.control_of.result _ c.in_default.not-Text)))

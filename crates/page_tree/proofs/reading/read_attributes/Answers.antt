use Rattle.std.proofs.Common.{◌∙◌, sym, ap}
use Rattle.serde_json.specs.View.{view, members_view}
use Rattle.page_tree.specs.Value.{texts_of}
use Rattle.page_tree.proofs.Ascending.{attributes_read}
use Rattle.page_tree.proofs.Found.{texts_next, texts_whole}
use Rattle.page_tree.proofs.reading.read_attributes.Goals as goal

pub returns : goal.returns
returns c =
    let rest = c.into_iter-name-iterator.ensures.into_iter_gives ∙ c.iter-name-items.ensures.rest in
    let texts = ap (λ es. texts_of (members_view es)) (sym rest) ∙ texts_whole c.loop-name.pairs.items c.loop-name.name-iterator _ c.in-None.ensures.steps.0 c.loop-name.invariant in
    rw c.from-2.ensures
    (attributes_read (view c.args.value.now) (view c.in-Some.given.now) c.in-Some-as_object.members.now.entries c.loop-name.pairs.items c.in-Some.ensures c.in-Some-as_object.ensures texts c.iter-name-items.ensures.ordered)

pub loop-name-preserved : goal.loop-name-preserved
loop-name-preserved c =
    texts_next c.loop-name.pairs.items _ c.in_ok-read_attribute.field-0 c.in-Some-2.name.now c.in-Some-2.text.now c.loop-name.name-iterator c.next.new.self _
    c.in_ok-push.ensures.items (c.in_ok-read_attribute.ensures.name ∙ c.as_str.ensures.value) c.in_ok-read_attribute.ensures.value.0 c.in-Some-2.ensures.steps c.loop-name.invariant

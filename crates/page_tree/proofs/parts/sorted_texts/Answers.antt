use Rattle.std.proofs.Common.{◌∙◌, ap, sym}
use Rattle.json_document.specs.Standing.{data_of}
use Rattle.page_tree.specs.Value.{texts_of}
use Rattle.page_tree.specs.inside.Walking.{members_kept, attributes_seen}
use Rattle.page_tree.proofs.PartLaws.{text_next, texts_done, texts_kept, pair_seen}
use Rattle.page_tree.proofs.parts.sorted_texts.Goals as goal

pub loop-name-preserved : goal.loop-name-preserved
loop-name-preserved c =
    text_next data_of (attributes_seen c.loop-name.pairs.items) _ c.in-Some.name.now c.in-Some.place.now c.in-Some-as_str.text.now c.loop-name.name-iterator c.next.new.self _
    (ap attributes_seen c.in_ok-push.ensures.items ∙ pair_seen c.loop-name.pairs.items (c.in-Some.name.now, c.in-Some-as_str.text)) (sym c.in-Some-as_str.ensures) c.in-Some.ensures.steps c.loop-name.invariant

pub returns : goal.returns
returns c =
    let rest = c.into_iter-name-iterator.ensures.into_iter_gives ∙ c.iter-name-items.ensures.rest in
    let texts = ap (λ es. texts_of (members_kept data_of es)) (sym rest) ∙ texts_done data_of (attributes_seen c.loop-name.pairs.items) c.loop-name.name-iterator _ c.in-None.ensures.steps.0 c.loop-name.invariant in
    (texts, texts_kept data_of c.args.members.now.entries (attributes_seen c.loop-name.pairs.items) texts c.iter-name-items.ensures.ordered)

use Rattle.std.proofs.Common.{◌∙◌, ap, sym, refl, option_and_then, option_map}
use Rattle.serde_json.specs.Data.{no_members}
use Rattle.json_document.specs.Standing.{data_of, members_behind, put_all}
use Rattle.page_tree.specs.Value.{texts_of}
use Rattle.page_tree.specs.inside.Walking.{attributes_seen}
use Rattle.page_tree.proofs.PartLaws.{ascend_next, ascend_end, pair_seen}
use Rattle.page_tree.proofs.parts.ascending_texts.Goals as goal

pub loop-name-init : goal.loop-name-init
loop-name-init c = rw c.new-pairs.ensures.items (record { ascend = refl; last = refl; members = refl })

pub loop-name-preserved : goal.loop-name-preserved
loop-name-preserved c =
    ascend_next (members_behind c.loop-name.members) (members_behind c.next.new.self) (put_all (members_behind c.in-Some.members) no_members)
    (attributes_seen c.loop-name.pairs.items) (attributes_seen c.push.new.self.items) (option_map (λ last. last.now) c.loop-name.before)
    c.in-Some-next.name.now c.in-Some-as_str.text.now (data_of c.in-Some-next.value) c.in-Some-next.ensures.value (sym c.in-Some-as_str.ensures)
    (sym c.if-not-is_above.ensures)
    (ap attributes_seen c.in_ok-push.ensures.items ∙ pair_seen c.loop-name.pairs.items (c.in-Some-next.name, c.in-Some-as_str.text)) c.loop-name.invariant

pub returns-clause-texts : goal.returns-clause-texts
returns-clause-texts c =
    ap (option_and_then texts_of) (sym c.in-Some.ensures)
    ∙ ascend_end (members_behind c.loop-name.members) (put_all (members_behind c.in-Some.members) no_members) (attributes_seen c.loop-name.pairs.items) _
    c.in_default-next.ensures.value c.loop-name.invariant

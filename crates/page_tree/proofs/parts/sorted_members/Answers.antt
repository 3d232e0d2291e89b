use Rattle.std.proofs.Common.{◌∙◌, ap}
use Rattle.json_document.specs.Standing.{data_of, members_behind, put_all}
use Rattle.page_tree.specs.inside.Walking.{members_kept}
use Rattle.page_tree.proofs.PartLaws.{put_next, kept-insert_entry}
use Rattle.page_tree.proofs.parts.sorted_members.Goals as goal

pub loop-name-preserved : goal.loop-name-preserved
loop-name-preserved c =
    ap (put_all (members_behind c.next.new.self)) (ap (members_kept data_of) c.in_ok-insert.ensures.entries ∙ kept-insert_entry data_of c.loop-name.found.entries c.in-Some.name c.in-Some.place)
    ∙ put_next _ _ c.in-Some.name.now (data_of c.in-Some.place) _ c.in-Some.ensures.value ∙ c.loop-name.invariant

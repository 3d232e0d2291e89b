use Rattle.std.proofs.Common.{length, option_map}
use Rattle.serde_json.specs.Data.{no_members}
use Rattle.json_document.specs.Standing.{members_behind, put_all}
use Rattle.page_tree.specs.inside.Walking.{attributes_seen}
use Rattle.page_tree.proofs.PartLaws.{AscendSoFar}
use Rattle.page_tree.proofs.parts.ascending_texts.Given as goal

abbrev pub invariant-loop-name : goal.invariant-loop-name
invariant-loop-name l =
    AscendSoFar (members_behind l.members) (put_all (members_behind l.initial.members) no_members) (attributes_seen l.pairs.items) (option_map (λ last. last.now) l.before)

abbrev pub decreases-loop-name : goal.decreases-loop-name
decreases-loop-name l = length l.members

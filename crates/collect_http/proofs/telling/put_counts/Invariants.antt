use Rattle.std.proofs.Common.{◌≡◌, ◌++◌, drop}
use Rattle.std.specs.List.{flat_map}
use Rattle.upload_store.specs.Store.{StoreState}
use Rattle.upload_folder.specs.Standing.{IsOpenAt}
use Rattle.collect_http.specs.Telling.{count_text, member_of}
use Rattle.collect_http.proofs.telling.put_counts.Given as goal

abbrev pub invariant-loop-visit : goal.invariant-loop-visit
invariant-loop-visit g l = (state : StoreState) → IsOpenAt g.F.GrowingFile.seen g.F.GrowingFile.durable g.F.GrowingFile.lost l.clients l.client state
    → l.text.items ++ flat_map (member_of (count_text state)) (drop l.visit-index l.visits) ≡ flat_map (member_of (count_text state)) l.visits

use Rattle.std.proofs.Common.{◌≡◌, ◌++◌, drop}
use Rattle.std.specs.List.{flat_map}
use Rattle.upload_store.specs.Standing.{KeepsState}
use Rattle.upload_store.specs.Store.{StoreState}
use Rattle.collect_http.specs.Telling.{refusal_text, member_of}
use Rattle.collect_http.proofs.telling.store_refusals.Given as goal

abbrev pub invariant-loop-visit : goal.invariant-loop-visit
invariant-loop-visit l = (state : StoreState) → KeepsState l.store state
    → l.text.items ++ flat_map (member_of (refusal_text state)) (drop l.visit-index l.visits) ≡ flat_map (member_of (refusal_text state)) l.visits

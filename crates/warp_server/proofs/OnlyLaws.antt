-- A round whose recorders are never asked to stop.
use Rattle.std.proofs.Common.{◌≡◌, ℕ, List, Bool, false, refl}
use Rattle.upload_reader.specs.Upload.{UploadState}
use Rattle.lanes_in_turn.specs.Taking.{never, Stops}
use Rattle.upload_lanes.specs.Threads.{Gathers}
use Rattle.lanes_in_turn.specs.declared.gathered.Gathered.{Gathered}
use Rattle.lanes_in_turn.specs.declared.gathered.LaneResult.{LaneResult}
use Rattle.lanes_in_turn.specs.declared.gathered.Stop.{Stop}

-- a question that allows no more
pub round_never : {R : Type 0} (allows : ℕ → Bool → Type 0) (more : ℕ) (earlier : Gathered R) (uploads : List (UploadState R)) (quota : ℕ) (gathered : Gathered R)
    → ((n : ℕ) (answer : Bool) → allows n answer → answer ≡ false) → Gathers allows more earlier uploads quota gathered → Gathers never more earlier uploads quota gathered
round_never allows more earlier uploads quota gathered false_only g =
    let stops_never : (lanes : List (List ℕ × LaneResult _)) (stop : Stop) → Stops allows lanes stop → Stops never lanes stop =
    λ lanes stop so. record { lesser = λ n few. refl; asked = λ is. false_only _ _ (so.asked is); ended = so.ended; refused = so.refused } in
    let t = g.taken in record {
      is_round = g.is_round;
      lanes = g.lanes;
      taken = record { lanes_are = t.lanes_are; stops = t.stops; count = t.count; each = λ recorder one at. stops_never _ one (t.each recorder one at); stop_is = t.stop_is };
      clients_are = g.clients_are;
    }

-- A recorder with the uploaders of its lanes: what each is given, and what all of them make of the lanes.
use Rattle.std.specs.Prelude.{◌≡◌, ℕ, ◌+◌, ◌*◌, ◌≤◌, List, length, map, Bool, Some, None, slice_get, Vec}
use Rattle.std.specs.Arc.{arc_value}
use Rattle.std.specs.List.{AllByRecursion, AllZip}
use Rattle.crossbeam_queue.specs.Passes.{Pass, view}
use Rattle.lane_queue.specs.Items.{of_lane}
use Rattle.lane_queue.specs.Opened.{IsNewPutterOf}
use Rattle.lane_queue.specs.Queue.{Queue}
use Rattle.lane_queue.specs.declared.item.Item.{Item}
use Rattle.lane_queue.specs.declared.view.QueueView.{QueueView}
use Rattle.upload_reader.specs.Upload.{UploadState}
use Rattle.lanes_in_turn.specs.Taking.{refused_by, Stops, TakesLane, IsFreshLane}
use Rattle.upload_lanes.specs.Threads.{stop_of}
use Rattle.upload_lanes.specs.inside.Sent.{IsReadOn, IsPut, AreSmall, spread}
use Rattle.lanes_in_turn.specs.declared.gathered.LaneResult.{LaneResult}
use Rattle.lanes_in_turn.specs.declared.gathered.Stop.{Stop}
use Rattle.upload_lanes.specs.declared.party.Party.{Party}
use Rattle.upload_lanes.specs.declared.sent.Parcel.{Parcel}
use Rattle.upload_lanes.specs.declared.sent.Sent.{Sent}
use Rattle.upload_lanes.specs.declared.uploader.Uploads.{Uploads}
use Rattle.std.specs.Global.{Global}
use Rattle.lane_queue.specs.Limits.{AreLanes}

-- the ends of that queue at which its lanes' items are put, in lane order
abbrev pub AreEnds : Queue → List (Pass (Item Parcel) (QueueView Parcel)) → Type 0
AreEnds queue putters = (k : ℕ) (putter : Pass (Item Parcel) (QueueView Parcel)) → slice_get putters k ≡ Some putter
    → IsNewPutterOf queue putter × ((view putter).lane ≡ k)

-- the lanes that a recorder is dealt
abbrev pub Hand : Type 0 → Type 0
Hand R = Vec (List ℕ × LaneResult R) Global

-- so many places for so many messages at once: with what an uploader holds that waits, and what a recorder has opened,
-- they keep to that room
pub record Fits (room places size : ℕ) : Type 0 where
  pub some : 1 ≤ size
  pub most : (places + 2) * size ≤ room + 2

module _ {R : Type 0} where
  -- ---- what they are given

  -- a lane without its upload
  abbrev pub without_upload : List ℕ × LaneResult R → List ℕ × LaneResult R
  without_upload lane = (lane.0, record lane.1 { upload = None })

  -- the uploaders of that queue's lanes, in lane order
  abbrev pub AreUploads : Queue → List (Uploads R) → Type 0
  AreUploads queue promises = (k : ℕ) (promise : Uploads R) → slice_get promises k ≡ Some promise
      → (promise.queue.value ≡ queue) × ((view promise.putter.value).lane ≡ k)

  -- and each is given the upload of its lane
  pub record AreSending (queue : Queue) (size : ℕ) (fresh : List (List ℕ × LaneResult R))
      (promises : List (Uploads R)) : Type 0 where
    pub uploads : AreUploads queue promises
    pub sizes : AllByRecursion (λ promise. promise.size.value ≡ size) promises
    pub same : map (λ promise. Some promise.upload.value) promises ≡ map (λ lane. lane.1.upload) fresh

  -- the recorder of these lanes and their uploaders have one queue
  pub record IsRunning {H : Type 0} (party : Party H R) : Type 0 where
    pub of : party.recorder.promise.queue.value ≡ arc_value party.queue
    pub lanes_are : party.recorder.promise.duty.value.lanes.items ≡ map without_upload party.fresh.value.items
    pub fresh : AllByRecursion IsFreshLane party.fresh.value.items
    pub sending : AreSending (arc_value party.queue) party.size party.fresh.value.items
        (map (λ handle. handle.promise) party.uploads.items)
    pub fits : Fits party.room (arc_value party.queue).room party.size

  -- the recorder asks that, and the party has that room
  pub record RunsBy {H : Type 0} (halt : H) (room : ℕ) (party : Party H R) : Type 0 where
    pub running : IsRunning party
    pub room_is : party.room ≡ room
    pub halt_is : party.recorder.promise.halt.value ≡ halt

  -- ---- what they make of it

  -- what is known of an upload by what was taken of its lane
  abbrev pub TellsUpload : ℕ → UploadState R → UploadState R → List (Item Sent) → Type 0
  TellsUpload more begun upload items = IsReadOn begun upload × IsPut more items upload

  -- the same, where that was put several at once into so many places
  pub record TellsParcels (places : ℕ) (promise : Uploads R) (upload : UploadState R) (items : List (Item Parcel))
      : Type 0 where
    pub told : TellsUpload ((places + 1) * promise.size.value) promise.upload.value upload (spread items)
    pub small : AreSmall promise.size.value items

  abbrev pub with_upload : List ℕ × LaneResult R → UploadState R → List ℕ × LaneResult R
  with_upload lane upload = (lane.0, record lane.1 { upload = Some upload })

  -- this lane has its upload, by what was taken of it of a queue of so many places
  pub record IsJoined (places : ℕ) (promises : List (Uploads R)) (got : List (Item Parcel)) (k : ℕ)
      (old new : List ℕ × LaneResult R) : Type 0 where
    pub promise : Uploads R
    pub promise_at : slice_get promises k ≡ Some promise
    pub upload : UploadState R
    pub told : TellsParcels places promise upload (of_lane k got)
    pub lane_is : new ≡ with_upload old upload

  pub record AreJoined (places : ℕ) (promises : List (Uploads R)) (got : List (Item Parcel))
      (old new : List (List ℕ × LaneResult R)) : Type 0 where
    pub count : length new ≡ length old
    pub each : (k : ℕ) (lane lane' : List ℕ × LaneResult R) → slice_get old k ≡ Some lane
        → slice_get new k ≡ Some lane' → IsJoined places promises got k lane lane'

  -- One recorder took this of these lanes, and stopped so.
  pub record TakesByOne (allows : ℕ → Bool → Type 0) (more : ℕ) (fresh lanes : List (List ℕ × LaneResult R))
      (stop : Stop) : Type 0 where
    pub each : AllZip (TakesLane (more + refused_by stop)) fresh lanes
    pub stops : Stops allows lanes stop

  -- ---- the parties of all recorders

  -- nothing was taken of them
  pub record IsFreshHand (hand : Hand R) : Type 0 where
    pub fresh : AllByRecursion IsFreshLane hand.items
    pub lanes : AreLanes (length hand.items)

  -- Each recorder took that of its lanes, and why all of them stopped.
  pub record TakeEach {X : Type 0} (Takes : X → List (List ℕ × LaneResult R) → Stop → Type 0) (given : List X)
      (taken : List (Hand R)) (stop : Stop) : Type 0 where
    pub made : List (Hand R × Stop)
    pub each : AllZip (λ x one. Takes x one.0.items one.1) given made
    pub taken_is : taken ≡ map (λ one. one.0) made
    pub stop_is : stop ≡ stop_of (map (λ one. one.1) made)

  -- what a party takes of its lanes
  abbrev pub TakesParty : {H : Type 0} → (H → ℕ → Bool → Type 0) → Party H R → List (List ℕ × LaneResult R) → Stop
      → Type 0
  TakesParty allows party = TakesByOne (allows party.recorder.promise.halt.value) (party.room + 1)
      party.fresh.value.items

-- What an uploader puts into its lane, and what stands in a lane's items.
use Rattle.std.specs.Prelude.{◌≡◌, ℕ, ◌≤◌, List, [], ◌∷◌, ◌++◌, length, map, Bool, true, false, Option, Some, None, IfSome}
use Rattle.std.specs.List.{AllByRecursion}
use Rattle.std.specs.Option.{option_to_list}
use Rattle.crossbeam_queue.specs.Passes.{view}
use Rattle.lane_queue.specs.Items.{next_item}
use Rattle.lane_queue.specs.Queue.{Queue, IsPassOf}
use Rattle.lane_queue.specs.Rule.{with_put}
use Rattle.lane_queue.specs.declared.answers.Put.{Put}
use Rattle.lane_queue.specs.declared.answers.Put.TheVariants.{Done}
use Rattle.lane_queue.specs.declared.item.Item.{Item}
use Rattle.lane_queue.specs.declared.view.QueueView.{QueueView}
use Rattle.upload_reader.specs.Limits.{max_messages}
use Rattle.upload_reader.specs.Next.{next_of, IfOver}
use Rattle.upload_reader.specs.Session.{session_fault}
use Rattle.upload_reader.specs.Stream.{Costed}
use Rattle.upload_reader.specs.Upload.{UploadState, GivesFirst, EndsBy}
use Rattle.upload_reader.specs.declared.ending.Ending.{Ending}
use Rattle.upload_reader.specs.declared.message.Message.{Message}
use Rattle.lanes_in_turn.specs.Lane.{ReadsBeforeEnd}
use Rattle.upload_lanes.specs.declared.uploader.Uploaded.{Uploaded}
use Rattle.upload_lanes.specs.declared.sent.Parcel.{Parcel}
use Rattle.upload_lanes.specs.declared.sent.Sent.{Sent}
use Rattle.upload_lanes.specs.declared.sent.Sent.TheVariants.{One, Last}

-- ---- the items of a lane

abbrev pub bodies : List (Item Sent) → List Sent
bodies items = map (λ item. item.body) items

abbrev pub sent_messages : List Sent → List Costed
sent_messages [] = []
sent_messages (One message ∷ items) = message ∷ sent_messages items
sent_messages (Last ending ∷ items) = sent_messages items

-- the last ending among them, or else that one
abbrev pub ending_behind : Option Ending → List Sent → Option Ending
ending_behind found [] = found
ending_behind found (One message ∷ items) = ending_behind found items
ending_behind found (Last ending ∷ items) = ending_behind (Some ending) items

abbrev pub is_last : Sent → Bool
is_last (One message) = false
is_last (Last ending) = true

abbrev pub IsMarked : Item Sent → Type 0
IsMarked item = item.last ≡ is_last item.body

-- ---- several at once

abbrev pub parts : Parcel → List Sent
parts parcel = parcel.first ∷ parcel.more.items

-- these as items of that lane
abbrev pub each_of : {B : Type 0} → Item B → List Sent → List (Item Sent)
each_of item all = map (λ body. record { lane = item.lane; number = item.number; last = item.last; body = body }) all

-- what goes through the queue at once, item by item
abbrev pub apart : Item Parcel → List (Item Sent)
apart item = each_of item (parts item.body)

abbrev pub spread : List (Item Parcel) → List (Item Sent)
spread [] = []
spread (item ∷ items) = apart item ++ spread items

-- no more than so many at once
abbrev pub AreSmall : ℕ → List (Item Parcel) → Type 0
AreSmall size items = AllByRecursion (λ item. length (parts item.body) ≤ size) items

-- each of these messages may follow those before it, the first one these
abbrev pub AreNext : List Message → List Costed → Type 0
AreNext earlier [] = Unit {0}
AreNext earlier (one ∷ messages) = (session_fault earlier one.0 ≡ None) × AreNext (earlier ++ one.0 ∷ []) messages

-- ---- an uploader

-- the body was put as the next item of the lane, or nothing was
abbrev pub Sends : QueueView Parcel → QueueView Parcel → Bool → Parcel → Bool → Type 0
Sends v w last body true = w ≡ with_put v (next_item v.lane v.put last body)
Sends v w last body false = w ≡ v

abbrev pub is_done : Put Parcel → Bool
is_done Done = true
is_done other = false

module _ {R : Type 0} where
  -- The upload was read on, each read before its end. What it gave is the front of its stream, where each message may
  -- follow those before it, and its end is the stream's.
  pub record IsReadOn (begun now : UploadState R) : Type 0 where
    pub own : ReadsBeforeEnd begun now
    pub first : GivesFirst now
    pub few : length now.given ≤ max_messages
    pub over : IfSome now.ending (λ ending. IfOver (next_of ending) (EndsBy now))
    pub lawful : AreNext now.lane.earlier now.given

  -- whatever upload it was read on from
  abbrev pub ReadsOn : UploadState R → UploadState R → Type 0
  ReadsOn old new = (begun : UploadState R) → IsReadOn begun old → IsReadOn begun new

  -- and nothing was read for that: what it gave since then was read before
  pub record GivesRead (old new : UploadState R) : Type 0 where
    pub unread : new.lines.answers ≡ old.lines.answers
    pub read : ReadsOn old new
    pub few : length new.given ≤ max_messages

  -- all that the upload gave was put, so many at once at the most, or is held; and it goes on
  pub record IsPutting (size : ℕ) (put : List (Item Parcel)) (held : List Sent) (now : UploadState R) : Type 0 where
    pub going : now.ending ≡ None
    pub all : map One now.given ≡ bodies (spread put) ++ held
    pub marked : AllByRecursion IsMarked (spread put)
    pub small : AreSmall size put
    pub few : length now.given ≤ max_messages

  -- what was given since then was added to what is held
  abbrev pub IsHeld : Parcel → UploadState R → Parcel → UploadState R → Type 0
  IsHeld parcel upload parcel' upload' = (front : List Sent) → map One upload.given ≡ front ++ parts parcel
      → map One upload'.given ≡ front ++ parts parcel'

  -- what was put is the front of what is sent of the upload, its messages and its ending, which is so many items more
  -- at the most
  pub record IsPut (more : ℕ) (put : List (Item Sent)) (now : UploadState R) : Type 0 where
    pub rest : List Sent
    pub front : map One now.given ++ map Last (option_to_list now.ending) ≡ bodies put ++ rest
    pub few : length rest ≤ more
    pub marked : AllByRecursion IsMarked put

  -- the same of what was put so many at once
  pub record HasPut (size : ℕ) (put : List (Item Parcel)) (now : UploadState R) : Type 0 where
    pub front : IsPut size (spread put) now
    pub small : AreSmall size put

  -- what an uploader hands back of that lane of the queue
  pub record IsUploaded (queue : Queue) (lane size : ℕ) (begun : UploadState R) (done : Uploaded R) : Type 0 where
    pub of : IsPassOf queue done.putter
    pub lane_is : (view done.putter).lane ≡ lane
    pub read : IsReadOn begun done.upload
    pub put : HasPut size (view done.putter).put done.upload

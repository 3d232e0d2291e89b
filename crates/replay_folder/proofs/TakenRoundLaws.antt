-- A round whose uploads were taken already, each the first of its client.
use Rattle.std.proofs.Common.{◌≡◌, ℕ, ◌+◌, ◌≤◌, ◌<◌, List, [], ◌∷◌, ◌++◌, length, map, bytes_eq, false, is_some, Option, None, Ok, Err, inl, inr, refl, sym, ap, ap₂, subst, ◌∙◌, arith, append-nil, length-append}
use Rattle.std.specs.Prelude.{fold, IfSome, Vec}
use Rattle.std.specs.Global.{Global}
use Rattle.std.specs.List.{AllByRecursion, AllZip, list_any}
use Rattle.std.specs.Map.{keys_of, lookup}
use Rattle.std.proofs.lemmas.List.{map-append, length-map}
use Rattle.std.proofs.lemmas.Map.Made.{is_some-lookup}
use Rattle.indexmap.specs.IndexMap.{get, insert_entry}
use Rattle.indexmap.proofs.MapLemmas.{insert_entry-absent, absent_from_lookup}
use Rattle.byte_streams.specs.Answers.{Answer}
use Rattle.upload_reader.specs.Upload.{UploadState}
use Rattle.lanes_in_turn.specs.Round.{clients_of, log_before, max_round_lanes, resumed_upload}
use Rattle.lanes_in_turn.specs.Taking.{begun_lane, never, new_lane}
use Rattle.lanes_in_turn.specs.declared.gathered.Gathered.{Gathered}
use Rattle.lanes_in_turn.specs.declared.gathered.LaneResult.{LaneResult}
use Rattle.lanes_in_turn.specs.declared.gathered.Stop.{Stop}
use Rattle.upload_lanes.specs.Threads.{AreTaken, both_stops, read_ahead, stop_of}
use Rattle.upload_lanes.proofs.Zips.{zip_length, zip_push}
use Rattle.warp_run.specs.declared.status.Status.TheVariants.{Done}
use Rattle.warp_server.specs.Rounds.{server_room, without_reader}
use Rattle.warp_server.specs.program.Callers.{IsReadSo}
use Rattle.warp_server.proofs.RoundsLaws.{all_mapped}
use Rattle.replay_folder.specs.inside.{AreReady, Holds, IsOwnRound, LeavesUnread, held_end}
use Rattle.replay_folder.specs.inside.AtOnce.{IsTakenOf}
use Rattle.replay_folder.specs.inside.Stretch.{AreTakenFirst, ClosesTaken, HasRoomFor, PutsRound, IsRoundOf, IsTakenFirst, TellsNext, TellsOne, first_lane, lane_let_go}
use Rattle.replay_folder.specs.declared.at_once.TakenLane.{TakenLane}
use Rattle.replay_folder.specs.declared.drawn_files.DrawnFile.{DrawnFile}
use Rattle.replay_folder.specs.declared.drawn_files.DrawnFile.TheVariants as made
use Rattle.replay_folder.specs.declared.ends.UploadEnd.{UploadEnd}
use Rattle.replay_folder.specs.declared.ends.UploadEnd.TheVariants as upload_end
use Rattle.replay_folder.specs.declared.open_round.OpenRound.{OpenRound}
use Rattle.replay_folder.specs.declared.open_round.RoundName.TheVariants.{Told, Waits}
use Rattle.replay_folder.specs.declared.open_round.TakenFiles.{TakenFiles}
use Rattle.replay_folder.specs.declared.taken_round.TakenRound.{TakenRound}
use Rattle.replay_folder.proofs.AtOnceLaws.{each_taken}
use Rattle.replay_folder.proofs.ClosingLaws.{nothing_closed, round_closed}
use Rattle.replay_folder.proofs.HandLaws.{taken_ahead}
use Rattle.replay_folder.proofs.OwnRoundLaws.{some_of}
use Rattle.replay_folder.proofs.TakenFilesLaws.{all_append, any_client, none_mapped}

-- ---- lists

zip_mapped : {A B C : Type 0} (f : A → B) (P : B → C → Type 0) (xs : List A) (ys : List C) → AllZip (λ x. P (f x)) xs ys → AllZip P (map f xs) ys
zip_mapped f P [] [] all = tt
zip_mapped f P [] (y ∷ ys) all = absurd all
zip_mapped f P (x ∷ xs) [] all = absurd all
zip_mapped f P (x ∷ xs) (y ∷ ys) all = (all.0, zip_mapped f P xs ys all.1)

none_beside : {A B : Type 0} (P : A → B → Type 0) (xs : List A) (ys : List B) → AllZip P xs ys → ys ≡ [] → xs ≡ []
none_beside P [] ys all none = refl
none_beside P (x ∷ xs) [] all none = absurd all
none_beside P (x ∷ xs) (y ∷ ys) all none = cc

map_twice : {A B C : Type 0} (f : A → B) (g : B → C) (xs : List A) → map g (map f xs) ≡ map (λ x. g (f x)) xs
map_twice f g [] = refl
map_twice f g (x ∷ xs) = ap (λ l. g (f x) ∷ l) (map_twice f g xs)

fold_behind : (first : Stop) (all : List Stop) (last : Stop) → fold both_stops first (all ++ last ∷ []) ≡ both_stops (fold both_stops first all) last
fold_behind first [] last = refl
fold_behind first (one ∷ all) last = fold_behind (both_stops first one) all last

no_value : {X : Type 0} (found : Option X) → found ≡ None → is_some found ≡ false
no_value found none = ap is_some none

-- the same Vec with so many other items
with_few : {R : Type 0} (old : Vec (UploadState R) Global) (uploads : List (UploadState R)) → length uploads ≤ max_round_lanes → Vec (UploadState R) Global
with_few old uploads few = record { ptr = old.ptr; len = length uploads; cap = max_round_lanes; alloc = old.alloc; items = uploads; ok = (refl, few); small = omega arith }

module _ {R : Type 0} (was_read : R → R → List Answer → Type 0) (quota : ℕ) where
  -- ---- lanes

  abbrev Taken : UploadState R → TakenLane R → Type 0
  Taken upload = IsTakenOf (first_lane quota upload)

  keys_first : (uploads : List (UploadState R)) (ones : List (TakenLane R)) → AllZip Taken uploads ones → keys_of (map lane_let_go ones) ≡ clients_of uploads
  keys_first [] [] all = refl
  keys_first [] (one ∷ ones) all = absurd all
  keys_first (upload ∷ uploads) [] all = absurd all
  keys_first (upload ∷ uploads) (one ∷ ones) all = ap₂ (λ key keys. key ∷ keys) all.0.each.0.client (keys_first uploads ones all.1)

  module _ (known : List ℕ → Option (LaneResult R)) where
    begun_first : (uploads : List (UploadState R)) → AllByRecursion (λ upload. known upload.client ≡ None) uploads → map (begun_lane known quota) uploads ≡ map (first_lane quota) uploads
    begun_first [] new = refl
    begun_first (upload ∷ uploads) new =
        ap₂ (λ lane lanes. lane ∷ lanes) (ap (λ found. (upload.client, new_lane (log_before quota upload found) (resumed_upload upload found))) new.0) (begun_first uploads new.1)

    module _ (uploads : List (UploadState R)) (own : Gathered R) (taken : AreTakenFirst was_read quota known uploads own) where
      pub taken_count : length uploads ≡ length own.clients.entries
      taken_count = zip_length Taken uploads taken.ones taken.takes ∙ sym (length-map taken.ones lane_let_go) ∙ sym (ap length taken.entries)

      pub none_first : own.clients.entries ≡ [] → uploads ≡ []
      none_first none = none_beside Taken uploads taken.ones taken.takes (none_mapped lane_let_go taken.ones (sym taken.entries ∙ none))

      pub keys_taken : keys_of own.clients.entries ≡ clients_of uploads
      keys_taken = ap keys_of taken.entries ∙ keys_first uploads taken.ones taken.takes

      abbrev lanes : List (List ℕ × LaneResult R)
      lanes = map (λ one. one.lane) taken.ones

      abbrev fresh : List (List ℕ × LaneResult R)
      fresh = map (first_lane quota) uploads

      are_taken : 1 ≤ length uploads → AreTaken never (read_ahead server_room (length uploads)) (map (begun_lane known quota) uploads) lanes own.stop
      are_taken some =
          let size : length fresh ≡ length uploads = length-map uploads (first_lane quota) in
          subst (λ begun. AreTaken never (read_ahead server_room (length uploads)) begun lanes own.stop) (sym (begun_first uploads taken.new))
          (taken_ahead (read_ahead server_room (length uploads)) fresh lanes own.stop
          (each_taken fresh lanes own.stop taken.ones (omega (arith, size, some)) (zip_mapped (first_lane quota) IsTakenOf uploads taken.ones taken.takes) refl taken.stop))

      pub own_round : 1 ≤ length uploads → AreReady uploads → IsOwnRound was_read quota known uploads own
      own_round some ready = record {
        is_round = record { lanes = record { some = some; few = ready.few }; clients = ready.apart };
        lanes = lanes;
        taken = are_taken some;
        read = some_of {X = List ℕ × LaneResult R} (λ entry. entry.1.upload) (IsReadSo was_read) lanes (all_mapped (λ one. one.lane) (λ entry. IfSome entry.1.upload (IsReadSo was_read)) taken.ones taken.read);
        clients_are = taken.entries ∙ sym (map_twice (λ one. one.lane) (λ entry. (entry.0, without_reader entry.1)) taken.ones);
      }

module _ {R : Type 0} (was_read : R → R → List Answer → Type 0) where
  -- ---- it is closed

  abbrev Known : ℕ → List (UploadState R) → Gathered R → TakenFiles R → Type 0
  Known quota uploads own taken = AreTakenFirst was_read quota (get bytes_eq taken.gathered.clients) uploads own

  pub none_closed : (round : TakenRound R) (taken : TakenFiles R) → round.own.clients.entries ≡ [] → taken.gathered ≡ round.kept.taken.gathered → taken.status ≡ round.kept.taken.status
      → taken.ends.items ≡ round.kept.taken.ends.items ++ map (held_end round.kept.taken.gathered) round.kept.held.items → ClosesTaken was_read round taken
  none_closed round taken none same status told = λ quota waiting is held ready whole.
      nothing_closed was_read quota waiting taken held (none_first was_read quota _ waiting.uploads.items round.own is.own none) (same ∙ ap (λ t. t.gathered) (sym is.taken)) (status ∙ ap (λ t. t.status) (sym is.taken))
      (subst (λ t. taken.ends.items ≡ t.ends.items ++ map (held_end t.gathered) waiting.held.items) (sym is.taken)
      (told ∙ ap (λ names. round.kept.taken.ends.items ++ map (held_end round.kept.taken.gathered) names) (sym is.held)))

  pub some_closed : (round : TakenRound R) (taken : TakenFiles R) → (round.own.clients.entries ≡ [] → ⊥)
      → PutsRound round.kept.taken.gathered.clients.entries round.kept.taken.ends.items round.kept.held.items round.own taken → ClosesTaken was_read round taken
  some_closed round taken some put = λ quota waiting is held ready whole.
      let uploads = waiting.uploads.items in
      let size = taken_count was_read quota _ uploads round.own is.own in
      let count : 1 ≤ length uploads = at_least uploads round.own.clients.entries size some in
      let done : waiting.taken.status ≡ Done = elim whole [ inl done ↦ done | inr none ↦ absurd (some (empty_too uploads round.own.clients.entries size none)) ] in
      let own = own_round was_read quota _ uploads round.own (subst (Known quota uploads round.own) (sym is.taken) is.own) count ready in
      round_closed was_read quota waiting taken held round.own waiting.taken.gathered.clients.entries done own (λ entries has. refl)
      (subst (λ t. PutsRound t.gathered.clients.entries t.ends.items waiting.held.items round.own taken) (sym is.taken)
      (subst (λ names. PutsRound round.kept.taken.gathered.clients.entries round.kept.taken.ends.items names round.own taken) (sym is.held) put))
    where
      at_least : {A B : Type 0} (xs : List A) (ys : List B) → length xs ≡ length ys → (ys ≡ [] → ⊥) → 1 ≤ length xs
      at_least [] [] size some = absurd (some refl)
      at_least [] (y ∷ ys) size some = absurd (omega (arith, size))
      at_least (x ∷ xs) ys size some = omega arith

      empty_too : {A B : Type 0} (xs : List A) (ys : List B) → length xs ≡ length ys → xs ≡ [] → ys ≡ []
      empty_too xs [] size none = refl
      empty_too [] (y ∷ ys) size none = absurd (omega (arith, size))
      empty_too (x ∷ xs) (y ∷ ys) size none = cc

  -- ---- one name more

  -- nothing is read of it
  pub unread_next : (round : TakenRound R) (kept : OpenRound R) (file : DrawnFile R) → (round.kept.taken.status ≡ Done → ⊥) → LeavesUnread round.kept kept
      → TellsNext was_read round file (record { kept = kept; own = round.own })
  unread_next round kept file short leaves = λ quota said waiting file_is is.
      let more : OpenRound R = record { taken = kept.taken; held = kept.held; uploads = waiting.uploads } in
      let left : LeavesUnread waiting more = record {
        gathered = leaves.gathered ∙ ap (λ t. t.gathered) (sym is.taken);
        status = leaves.status ∙ ap (λ t. t.status) (sym is.taken);
        ends = leaves.ends ∙ ap (λ t. t.ends.items ++ upload_end.Unread ∷ []) (sym is.taken);
        held = leaves.held ∙ sym is.held;
        uploads = refl;
      } in (
        more,
        record { taken = refl; held = refl; own = subst (λ g. AreTakenFirst was_read quota (get bytes_eq g.clients) waiting.uploads.items round.own) (sym leaves.gathered) is.own },
        inl ((λ done. short (ap (λ t. t.status) (sym is.taken) ∙ done)), left),
      )

  -- it is told without an upload
  pub told_next : (round : TakenRound R) (kept : OpenRound R) (end : UploadEnd) → round.kept.taken.status ≡ Done → Holds round.kept (Err end) kept
      → TellsNext was_read round (made.Told end) (record { kept = kept; own = round.own })
  told_next round kept end whole holds quota (Ok upload) waiting file_is is = absurd file_is
  told_next round kept end whole holds quota (Err other) waiting file_is is =
      let more : OpenRound R = record { taken = kept.taken; held = kept.held; uploads = waiting.uploads } in
      let held : Holds waiting (Err other) more = record {
        taken = holds.taken ∙ sym is.taken;
        held = holds.held ∙ ap₂ (λ names told. names ++ Told told ∷ []) (sym is.held) file_is;
        uploads = sym (append-nil waiting.uploads.items);
      } in (
        more,
        record { taken = refl; held = refl; own = subst (Known quota waiting.uploads.items round.own) (sym holds.taken) is.own },
        inr (ap (λ t. t.status) is.taken ∙ whole, tt, held),
      )

  -- its upload was taken
  pub record AddsTaken (round : TakenRound R) (one : TakenLane R) (new : TakenRound R) : Type 0 where
    pub taken : new.kept.taken ≡ round.kept.taken
    pub held : new.kept.held.items ≡ round.kept.held.items ++ Waits one.lane.0 ∷ []
    pub entries : new.own.clients.entries ≡ insert_entry bytes_eq round.own.clients.entries one.lane.0 one.lane.1
    pub stop : new.own.stop ≡ both_stops round.own.stop one.stop
    pub new_client : get bytes_eq round.kept.taken.gathered.clients one.lane.0 ≡ None
    pub other_client : get bytes_eq round.own.clients one.lane.0 ≡ None

  module _ (round : TakenRound R) (one : TakenLane R) (new : TakenRound R) (adds : AddsTaken round one new) (quota : ℕ) (upload : UploadState R) (waiting : OpenRound R)
      (first : IsTakenFirst was_read quota upload one) (is : IsRoundOf was_read quota round waiting) where
    abbrev old : List (UploadState R)
    old = waiting.uploads.items

    client_is : one.lane.0 ≡ upload.client
    client_is = ap (λ lane. lane.0) first.lane_is ∙ first.takes.each.0.client

    other_than : list_any (λ other. bytes_eq upload.client other.client) old ≡ false
    other_than =
        let absent : lookup (bytes_eq upload.client) round.own.clients.entries ≡ None = ap (λ client. lookup (bytes_eq client) round.own.clients.entries) (sym client_is) ∙ adds.other_client in
        sym (any_client upload.client old) ∙ ap (list_any (bytes_eq upload.client)) (sym (keys_taken was_read quota _ old round.own is.own))
        ∙ sym (is_some-lookup (bytes_eq upload.client) round.own.clients.entries) ∙ no_value _ absent

    entries_more : new.own.clients.entries ≡ map lane_let_go (is.own.ones ++ first.whole ∷ [])
    entries_more =
        adds.entries ∙ insert_entry-absent bytes_eq one.lane.0 one.lane.1 round.own.clients.entries (absent_from_lookup (bytes_eq one.lane.0) round.own.clients.entries adds.other_client)
        ∙ ap₂ (λ lanes lane. lanes ++ lane ∷ []) is.own.entries first.lane_is ∙ sym (map-append lane_let_go is.own.ones (first.whole ∷ []))

    stop_more : new.own.stop ≡ stop_of (map (λ o. o.stop) (is.own.ones ++ first.whole ∷ []))
    stop_more =
        adds.stop ∙ ap₂ both_stops is.own.stop first.stop_is ∙ sym (fold_behind _ (map (λ o. o.stop) is.own.ones) first.whole.stop)
        ∙ ap stop_of (sym (map-append (λ o. o.stop) is.own.ones (first.whole ∷ [])))

    taken_more : AreTakenFirst was_read quota (get bytes_eq new.kept.taken.gathered.clients) (old ++ upload ∷ []) new.own
    taken_more = record {
      ones = is.own.ones ++ first.whole ∷ [];
      takes = zip_push (λ u. IsTakenOf (first_lane quota u)) old is.own.ones upload first.whole is.own.takes first.takes;
      read = all_append (λ o. IfSome o.lane.1.upload (IsReadSo was_read)) is.own.ones (first.whole ∷ []) is.own.read (first.read, tt);
      entries = entries_more;
      stop = stop_more;
      new = subst (λ t. AllByRecursion (λ u. get bytes_eq t.gathered.clients u.client ≡ None) (old ++ upload ∷ [])) (sym adds.taken)
          (all_append (λ u. get bytes_eq round.kept.taken.gathered.clients u.client ≡ None) old (upload ∷ []) is.own.new
          (subst (λ client. get bytes_eq round.kept.taken.gathered.clients client ≡ None) client_is adds.new_client, tt));
    }

    pub upload_next : round.kept.taken.status ≡ Done → length round.own.clients.entries < max_round_lanes
        → (more : OpenRound R) × IsRoundOf was_read quota new more × TellsOne waiting (Ok upload) more
    unfolding with_few
    upload_next whole few =
        let size = taken_count was_read quota _ old round.own is.own in
        let longer : length (old ++ upload ∷ []) ≡ length old + 1 = length-append old (upload ∷ []) in
        let more : OpenRound R = record { taken = new.kept.taken; held = new.kept.held; uploads = with_few waiting.uploads (old ++ upload ∷ []) (omega (arith, size, longer, few)) } in
        let room : HasRoomFor waiting upload = record { few = omega (arith, size, few); other = other_than } in
        let held : Holds waiting (Ok upload) more = record {
          taken = adds.taken ∙ sym is.taken;
          held = adds.held ∙ ap₂ (λ names client. names ++ Waits client ∷ []) (sym is.held) client_is;
          uploads = refl;
        } in (more, record { taken = refl; held = refl; own = taken_more }, inr (ap (λ t. t.status) is.taken ∙ whole, room, held))

  pub taken_next : (round : TakenRound R) (one : TakenLane R) (new : TakenRound R) → AddsTaken round one new → round.kept.taken.status ≡ Done → length round.own.clients.entries < max_round_lanes
      → TellsNext was_read round (made.Taken one) new
  taken_next round one new adds whole few quota (Ok upload) waiting file_is is = upload_next round one new adds quota upload waiting file_is is whole few
  taken_next round one new adds whole few quota (Err end) waiting file_is is = absurd file_is

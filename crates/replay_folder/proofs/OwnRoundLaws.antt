-- A round behind the logs of its own clients alone is a round behind all that was gathered.
use Rattle.std.proofs.Common.{◌≡◌, ℕ, List, [], ◌∷◌, length, map, flat_map, bytes_eq, Bool, true, false, ◌||◌, if◌then◌else◌, Option, Some, None, IfSome, Result, Ok, Err, refl, sym, ap, ap₂, subst, ◌∙◌}
use Rattle.std.specs.List.{AllByRecursion, AllZip, IsDistinct, cons_option, filter_map, list_any}
use Rattle.std.specs.Map.{keys_of, values_of, lookup}
use Rattle.std.specs.Option.{option_map, option_map_or}
use Rattle.std.proofs.lemmas.Bool.{or_right}
use Rattle.std.proofs.lemmas.Map.Made.{lookup-map_values, keys_of-map_values}
use Rattle.indexmap.specs.IndexMap.{get, insert_all, insert_entry, with_entries}
use Rattle.byte_streams.specs.Answers.{Answer}
use Rattle.upload_reader.specs.Upload.{UploadState}
use Rattle.lanes_in_turn.specs.Round.{log_before, behind_log, resumed_upload, without_lane, without_lanes, clients_of, has_twice}
use Rattle.lanes_in_turn.specs.Taking.{TakesLane, begun_lane, new_lane, never}
use Rattle.lanes_in_turn.specs.declared.gathered.Gathered.{Gathered}
use Rattle.lanes_in_turn.specs.declared.gathered.LaneResult.{LaneResult}
use Rattle.lanes_in_turn.specs.declared.gathered.Stop.{Stop}
use Rattle.lanes_in_turn.specs.declared.gathered.Stop.TheVariants as stops
use Rattle.upload_lanes.specs.Threads.{AreTaken, read_ahead}
use Rattle.upload_lanes.proofs.TakenLaws.{lanes_of}
use Rattle.warp_run.specs.Shortage.{gave_up, status_by, status_of}
use Rattle.warp_run.specs.declared.status.Status.TheVariants.{Done, OutOfMemory}
use Rattle.warp_server.specs.Rounds.{server_room, without_reader, GathersRound}
use Rattle.warp_server.specs.program.Callers.{uploads_in, IsReadSo, RoundIsRead}
use Rattle.warp_server.proofs.HeadlineLaws.{insert_behind, distinct, same_keys}
use Rattle.warp_server.proofs.RoundSteps.{all_weaker}
use Rattle.warp_server.proofs.RoundsLaws.{all_both, all_mapped, all_of_mapped}
use Rattle.replay_folder.specs.inside.{held_as, held_upload, held_end, HasClient, IsSameBehind, KeepsLogs, IsOwnRound}
use Rattle.replay_folder.specs.declared.ends.UploadEnd.{UploadEnd}
use Rattle.replay_folder.specs.declared.ends.UploadEnd.TheVariants as upload_end
use Rattle.replay_folder.proofs.AmongLaws.{itself, all_among, all_found, any_among, mapped_among}

-- ---- lists

module _ {X Y : Type 0} (f : X → Option Y) (P : Y → Type 0) where
  some_by : (o : Option Y) (ys : List Y) → AllByRecursion P (cons_option o ys) → IfSome o P × AllByRecursion P ys
  some_by None ys all = (tt, all)
  some_by (Some y) ys all = all

  of_some : (xs : List X) → AllByRecursion P (filter_map f xs) → AllByRecursion (λ x. IfSome (f x) P) xs
  of_some [] all = tt
  of_some (x ∷ xs) all = let (one, rest) = some_by (f x) (filter_map f xs) all in (one, of_some xs rest)

  by_some : (o : Option Y) (ys : List Y) → IfSome o P → AllByRecursion P ys → AllByRecursion P (cons_option o ys)
  by_some None ys one rest = rest
  by_some (Some y) ys one rest = (one, rest)

  pub some_of : (xs : List X) → AllByRecursion (λ x. IfSome (f x) P) xs → AllByRecursion P (filter_map f xs)
  some_of [] all = tt
  some_of (x ∷ xs) all = by_some (f x) (filter_map f xs) all.0 (some_of xs all.1)

each_own : (clients : List (List ℕ)) → AllByRecursion (λ client. list_any (bytes_eq client) clients ≡ true) clients
each_own [] = tt
each_own (first ∷ clients) = (
  ap (λ b. b || list_any (bytes_eq first) clients) (itself first),
  all_weaker (λ client. list_any (bytes_eq client) clients ≡ true) (λ client. list_any (bytes_eq client) (first ∷ clients) ≡ true) (λ client has. or_right (bytes_eq client first) _ has) clients (each_own clients),
)

abbrev pub Lanes : Type 0 → Type 0
Lanes R = List (List ℕ × LaneResult R)

module _ {R : Type 0} where
  abbrev pub let_go : Lanes R → Lanes R
  let_go lanes = map (λ entry. (entry.0, without_reader entry.1)) lanes

  -- ---- lanes that have none of the last round

  rested_again : (lanes : Lanes R) → without_lanes (let_go (without_lanes lanes)) ≡ without_lanes lanes
  rested_again [] = refl
  rested_again (lane ∷ lanes) = ap (λ rest. (lane.0, without_lane lane.1) ∷ rest) (rested_again lanes)

  rested_end : (lanes : Lanes R) → AllByRecursion (λ entry. gave_up entry.1.end ≡ false) (let_go (without_lanes lanes))
  rested_end [] = tt
  rested_end (lane ∷ lanes) = (refl, rested_end lanes)

  rested_unread : (P : UploadState R → Type 0) (lanes : Lanes R) → AllByRecursion (λ entry. IfSome entry.1.upload P) (without_lanes lanes)
  rested_unread P [] = tt
  rested_unread P (lane ∷ lanes) = (tt, rested_unread P lanes)

  -- what is made of the logs is the same
  pub map_rested : {Y : Type 0} (f : List ℕ × LaneResult R → Y) → ((entry : List ℕ × LaneResult R) → f (entry.0, without_lane entry.1) ≡ f entry) → (lanes : Lanes R) → map f (without_lanes lanes) ≡ map f lanes
  map_rested f same [] = refl
  map_rested f same (lane ∷ lanes) = ap₂ (λ y ys. y ∷ ys) (same lane) (map_rested f same lanes)

  status_same : (stop : Stop) (lanes others : List (LaneResult R)) → list_any (λ lane. gave_up lane.end) lanes ≡ list_any (λ lane. gave_up lane.end) others → status_by stop lanes ≡ status_by stop others
  status_same stops.Memory lanes others same = refl
  status_same stops.None lanes others same = ap (λ short. if short then OutOfMemory else Done) same
  status_same stops.Asked lanes others same = ap (λ short. if short then OutOfMemory else Done) same

  -- ---- what a round begins behind

  -- a log and its session are all that counts of a lane before
  pub begun_behind : (quota : ℕ) (upload : UploadState R) (found : Option (LaneResult R)) → let log = log_before quota upload found in new_lane log (behind_log log upload) ≡ new_lane log (resumed_upload upload found)
  begun_behind quota upload None = refl
  begun_behind quota upload (Some lane) = refl

  begun_same : (quota : ℕ) (upload : UploadState R) (found : Option (LaneResult R)) → let known = option_map without_lane found in
      new_lane (log_before quota upload known) (resumed_upload upload known) ≡ new_lane (log_before quota upload found) (resumed_upload upload found)
  begun_same quota upload None = refl
  begun_same quota upload (Some lane) = refl

  module _ (quota : ℕ) (known before : List ℕ → Option (LaneResult R)) (rests : (client : List ℕ) → known client ≡ option_map without_lane (before client)) where
    begun_one : (upload : UploadState R) → begun_lane known quota upload ≡ begun_lane before quota upload
    begun_one upload =
        ap (λ lane. (upload.client, new_lane (log_before quota upload lane) (resumed_upload upload lane))) (rests upload.client)
        ∙ ap (λ lane. (upload.client, lane)) (begun_same quota upload (before upload.client))

    begun_all : (uploads : List (UploadState R)) → map (begun_lane known quota) uploads ≡ map (begun_lane before quota) uploads
    begun_all [] = refl
    begun_all (upload ∷ uploads) = ap₂ (λ lane lanes. lane ∷ lanes) (begun_one upload) (begun_all uploads)

  found_own : (lanes : Lanes R) → IsDistinct bytes_eq (keys_of lanes) → AllByRecursion (λ entry. lookup (bytes_eq entry.0) lanes ≡ Some entry.1) lanes
  found_own lanes apart =
      subst (λ all. AllByRecursion (λ entry. lookup (bytes_eq entry.0) all ≡ Some entry.1) lanes) (insert_behind [] lanes apart) (all_found [] lanes apart)

-- ---- the round

-- the lanes of such uploads, let go and put where there were none
pub own_entries : {R : Type 0} (known : List ℕ → Option (LaneResult R)) (quota more : ℕ) (uploads : List (UploadState R)) (lanes : Lanes R) → has_twice (clients_of uploads) ≡ false
    → AllZip (TakesLane more) (map (begun_lane known quota) uploads) lanes → insert_all bytes_eq [] (let_go lanes) ≡ let_go lanes
own_entries known quota more uploads lanes apart are =
    let keys = keys_of-map_values without_reader lanes ∙ same_keys known quota uploads lanes (lanes_of known quota more uploads lanes are) in
    insert_behind [] (let_go lanes) (subst (IsDistinct bytes_eq) (sym keys) (distinct (clients_of uploads) apart))

-- one lane more was let go
pub closed_one : {R : Type 0} (own next : Lanes R) (client : List ℕ) (lane : LaneResult R) (left rest all : Lanes R) → rest ≡ (client, lane) ∷ left → next ≡ insert_entry bytes_eq own client (without_reader lane)
    → insert_all bytes_eq own (let_go rest) ≡ insert_all bytes_eq [] (let_go all) → insert_all bytes_eq next (let_go left) ≡ insert_all bytes_eq [] (let_go all)
closed_one own next client lane left rest all first put had = ap (λ es. insert_all bytes_eq es (let_go left)) put ∙ ap (λ lanes. insert_all bytes_eq own (let_go lanes)) (sym first) ∙ had

pub read_one : {R : Type 0} (P : UploadState R → Type 0) (client : List ℕ) (lane : LaneResult R) (left rest : Lanes R) → rest ≡ (client, lane) ∷ left → IfSome lane.upload P
    → AllByRecursion P (uploads_in left) → AllByRecursion P (uploads_in rest)
read_one {R = R} P client lane left rest first read others = subst (λ lanes. AllByRecursion P (uploads_in lanes)) (sym first) (by_some {X = List ℕ × LaneResult R} (λ entry. entry.1.upload) P lane.upload (uploads_in left) read others)

-- what was taken of the round's own clients is what is taken of them behind all that was gathered
pub record IsSameRound {R : Type 0} (was_read : R → R → List Answer → Type 0) (quota : ℕ) (earlier own rest : Gathered R) (uploads : List (UploadState R)) : Type 0 where
  pub gathered : Gathered R
  pub read : RoundIsRead was_read quota earlier uploads gathered
  pub keeps : KeepsLogs rest gathered
  pub status : status_of own ≡ status_of gathered
  pub found : AllByRecursion (λ upload. get bytes_eq own.clients upload.client ≡ get bytes_eq gathered.clients upload.client) uploads

module _ {R : Type 0} (was_read : R → R → List Answer → Type 0) (quota : ℕ) (kept earlier own rest : Gathered R) (hollow : List (List ℕ × LaneResult R)) (uploads : List (UploadState R))
    (keeps : KeepsLogs kept earlier) (whole : status_of earlier ≡ Done) (round : IsOwnRound was_read quota (get bytes_eq kept.clients) uploads own)
    (same : IsSameBehind (clients_of uploads) kept.clients.entries hollow) (put : rest.clients.entries ≡ insert_all bytes_eq hollow (without_lanes own.clients.entries)) (stop : rest.stop ≡ own.stop) where
  abbrev lanes : List (List ℕ × LaneResult R)
  lanes = round.lanes

  abbrev known : List ℕ → Option (LaneResult R)
  known = get bytes_eq kept.clients

  apart : IsDistinct bytes_eq (clients_of uploads)
  apart = distinct (clients_of uploads) round.is_round.clients

  keys : keys_of lanes ≡ clients_of uploads
  keys = same_keys known quota uploads lanes (lanes_of known quota _ uploads lanes round.taken.lanes_are)

  lanes_apart : IsDistinct bytes_eq (keys_of lanes)
  lanes_apart = subst (IsDistinct bytes_eq) (sym keys) apart

  own_is : own.clients.entries ≡ let_go lanes
  own_is = round.clients_are

  -- ---- the same round behind all

  abbrev all : List (List ℕ × LaneResult R)
  all = insert_all bytes_eq (without_lanes earlier.clients.entries) lanes

  abbrev gathered : Gathered R
  gathered = record { clients = with_entries own.clients (let_go all); stop = own.stop }

  begun : map (begun_lane known quota) uploads ≡ map (begun_lane (get bytes_eq earlier.clients) quota) uploads
  begun =
      begun_all quota known (get bytes_eq earlier.clients)
      (λ client. ap (lookup (bytes_eq client)) keeps.clients ∙ lookup-map_values without_lane (bytes_eq client) earlier.clients.entries) uploads

  gathers : GathersRound quota earlier uploads gathered
  gathers = record {
    whole = whole;
    round = record { clients = with_entries own.clients all; stop = own.stop };
    gathers = record {
      is_round = round.is_round;
      lanes = lanes;
      taken = subst (λ fresh. AreTaken never (read_ahead server_room (length uploads)) fresh lanes own.stop) begun round.taken;
      clients_are = refl;
    };
    clients_are = refl;
    stop_is = refl;
  }

  read_so : AllByRecursion (IsReadSo was_read) (uploads_in all)
  read_so =
      let upload : List ℕ × LaneResult R → Option (UploadState R) = λ entry. entry.1.upload in
      some_of upload (IsReadSo was_read) all (all_among (λ entry. IfSome entry.1.upload (IsReadSo was_read)) (without_lanes earlier.clients.entries) lanes
      (rested_unread (IsReadSo was_read) earlier.clients.entries) (of_some upload (IsReadSo was_read) lanes round.read))

  own_read : RoundIsRead was_read quota earlier uploads gathered
  unfolding gathers
  own_read = (gathers, read_so)

  -- ---- what is kept of it

  own_keys : keys_of own.clients.entries ≡ clients_of uploads
  own_keys = ap keys_of own_is ∙ keys_of-map_values without_reader lanes ∙ keys

  has_all : AllByRecursion (HasClient (without_lanes own.clients.entries)) (clients_of uploads)
  has_all =
      subst (λ clients. AllByRecursion (λ client. list_any (bytes_eq client) clients ≡ true) (clients_of uploads)) (sym (keys_of-map_values without_lane own.clients.entries ∙ own_keys)) (each_own (clients_of uploads))

  own_kept : KeepsLogs rest gathered
  own_kept = record {
    clients =
        put ∙ same (without_lanes own.clients.entries) has_all
        ∙ ap₂ (λ logs more. insert_all bytes_eq logs (without_lanes more)) keeps.clients own_is
        ∙ ap (λ logs. insert_all bytes_eq logs (without_lanes (let_go lanes))) (sym (rested_again earlier.clients.entries))
        ∙ sym (mapped_among without_lane (let_go (without_lanes earlier.clients.entries)) (let_go lanes))
        ∙ ap without_lanes (sym (mapped_among without_reader (without_lanes earlier.clients.entries) lanes));
    stop = stop;
  }

  let_go_apart : IsDistinct bytes_eq (keys_of (let_go lanes))
  let_go_apart = subst (IsDistinct bytes_eq) (sym (keys_of-map_values without_reader lanes)) lanes_apart

  all_let_go : let_go all ≡ insert_all bytes_eq (let_go (without_lanes earlier.clients.entries)) (let_go lanes)
  all_let_go = mapped_among without_reader (without_lanes earlier.clients.entries) lanes

  own_status : status_of own ≡ status_of gathered
  own_status =
      let fails : LaneResult R → Bool = λ lane. gave_up lane.end in
      status_same own.stop (values_of own.clients.entries) (values_of (let_go all))
      (ap (λ entries. list_any fails (values_of entries)) own_is
      ∙ sym (any_among fails (let_go (without_lanes earlier.clients.entries)) (let_go lanes) (rested_end earlier.clients.entries) let_go_apart)
      ∙ ap (λ entries. list_any fails (values_of entries)) (sym all_let_go))

  -- ---- what is told of it

  own_found : AllByRecursion (λ upload. get bytes_eq own.clients upload.client ≡ get bytes_eq gathered.clients upload.client) uploads
  own_found =
      let mine = let_go lanes in
      let Same : List ℕ → Type 0 = λ client. lookup (bytes_eq client) own.clients.entries ≡ lookup (bytes_eq client) (let_go all) in
      let in_own = subst (λ entries. AllByRecursion (λ entry. lookup (bytes_eq entry.0) entries ≡ Some entry.1) mine) (sym own_is) (found_own mine let_go_apart) in
      let in_all = subst (λ entries. AllByRecursion (λ entry. lookup (bytes_eq entry.0) entries ≡ Some entry.1) mine) (sym all_let_go)
      (all_found (let_go (without_lanes earlier.clients.entries)) mine let_go_apart) in
      let both = all_both (λ entry. lookup (bytes_eq entry.0) own.clients.entries ≡ Some entry.1) (λ entry. lookup (bytes_eq entry.0) (let_go all) ≡ Some entry.1) (λ entry. Same entry.0)
      (λ entry here there. here ∙ sym there) mine in_own in_all in
      all_of_mapped (λ upload. upload.client) Same uploads (subst (AllByRecursion Same) (keys_of-map_values without_reader lanes ∙ keys) (all_mapped (λ entry. entry.0) Same mine both))

  pub same_round : IsSameRound was_read quota earlier own rest uploads
  same_round = record { gathered = gathered; read = own_read; keeps = own_kept; status = own_status; found = own_found }

-- what becomes of the names of a round is told by the lanes of their clients
pub held_same : {R : Type 0} (one other : Gathered R) (said : List (Result (UploadState R) UploadEnd))
    → AllByRecursion (λ upload. get bytes_eq one.clients upload.client ≡ get bytes_eq other.clients upload.client) (flat_map held_upload said)
    → map (held_end one) (map held_as said) ≡ map (held_end other) (map held_as said)
held_same one other [] same = refl
held_same one other (Ok upload ∷ said) same =
    ap₂ (λ end ends. end ∷ ends) (ap (λ lane. option_map_or (λ found. upload_end.Taken upload.client found.taken found.end) lane upload_end.Unread) same.0) (held_same one other said same.1)
held_same one other (Err end ∷ said) same = ap (λ ends. end ∷ ends) (held_same one other said same)

-- What rounds leave of each client: the log after its own uploads, and an entry for each upload's client.
use Rattle.std.specs.Prelude.{◌≡◌, ℕ, List, [], ◌∷◌, ◌++◌, map, take, filter, Bool, true, false, if◌then◌else◌, is_some, bytes_eq, slice_get, Option, Some, None, zero, suc}
use Rattle.std.proofs.Common.{refl, sym, ap, subst, ◌∙◌, true≢false}
use Rattle.std.specs.Map.{keys_of, lookup}
use Rattle.std.specs.List.{AllByRecursion, AllZip, IsDistinct, list_any}
use Rattle.std.specs.Option.{IsSome}
use Rattle.std.specs.Cmp.Lexicographic.{nat_list_eq_equiv}
use Rattle.std.proofs.lemmas.Bool.{cond-true, cond-false, or_left, or_right}
use Rattle.std.proofs.lemmas.List.Folds.{list_any-append}
use Rattle.std.proofs.lemmas.Map.Entries.{place_from_lookup}
use Rattle.std.proofs.lemmas.Map.Keys.{IsDistinct-push}
use Rattle.std.proofs.lemmas.Map.Made.{is_some-lookup}
use Rattle.std.proofs.lemmas.Slice.Eq.{bytes_eq-Decides}
use Rattle.indexmap.specs.IndexMap.{get, insert_all, insert_entry}
use Rattle.indexmap.specs.IndexSet.{insert_key, insert_all as set_all}
use Rattle.indexmap.proofs.SetLemmas.{keys_insert_entry, keys_insert_all}
use Rattle.upload_reader.specs.Stream.{Costed}
use Rattle.upload_reader.specs.Upload.{UploadState}
use Rattle.client_log.specs.Client.{OfClient}
use Rattle.client_log.specs.Log.{kept_log}
use Rattle.lanes_in_turn.specs.Lane.{IsTaken}
use Rattle.lanes_in_turn.specs.Round.{new_log, log_before, resumed_upload, without_lane, clients_of}
use Rattle.upload_lanes.proofs.TakenLaws.{IsLaneOf, lanes_of}
use Rattle.lanes_in_turn.specs.declared.gathered.Gathered.{Gathered}
use Rattle.lanes_in_turn.specs.declared.gathered.LaneResult.{LaneResult}
use Rattle.warp_server.specs.Rounds.{without_reader, GathersRound, GathersRounds, IsLogAfter, uploads_of, HasLog}
use Rattle.warp_server.proofs.HeadlineLaws.{distinct, same_keys}
use Rattle.warp_server.proofs.RoundSteps.{all_weaker}

-- ---- lists

module _ {X : Type 0} where
  pub all_both : (P Q S : X → Type 0) → ((x : X) → P x → Q x → S x) → (xs : List X) → AllByRecursion P xs → AllByRecursion Q xs → AllByRecursion S xs
  all_both P Q S both [] all also = tt
  all_both P Q S both (x ∷ xs) all also = (both x all.0 also.0, all_both P Q S both xs all.1 also.1)

  all_at : (P : X → Type 0) (xs : List X) (k : ℕ) (x : X) → AllByRecursion P xs → slice_get xs k ≡ Some x → P x
  all_at P [] k x all at = cc
  all_at P (y ∷ xs) zero x all at = let same : y ≡ x = cc in subst P same all.0
  all_at P (y ∷ xs) (suc k) x all at = all_at P xs k x all.1 at

  none_passes : (test : X → Bool) (xs : List X) → AllByRecursion (λ x. test x ≡ false) xs → filter test xs ≡ []
  none_passes test [] none = refl
  none_passes test (x ∷ xs) none = cond-false (test x) (x ∷ filter test xs) (filter test xs) none.0 ∙ none_passes test xs none.1

module _ {X Y : Type 0} where
  pub all_mapped : (f : X → Y) (P : Y → Type 0) (xs : List X) → AllByRecursion (λ x. P (f x)) xs → AllByRecursion P (map f xs)
  all_mapped f P [] all = tt
  all_mapped f P (x ∷ xs) all = (all.0, all_mapped f P xs all.1)

  pub all_of_mapped : (f : X → Y) (P : Y → Type 0) (xs : List X) → AllByRecursion P (map f xs) → AllByRecursion (λ x. P (f x)) xs
  all_of_mapped f P [] all = tt
  all_of_mapped f P (x ∷ xs) all = (all.0, all_of_mapped f P xs all.1)

  all_beside : (Z : X → Y → Type 0) (P : X → Type 0) (Q : Y → Type 0) → ((x : X) (y : Y) → Z x y → P x → Q y) → (xs : List X) (ys : List Y)
      → AllZip Z xs ys → AllByRecursion P xs → AllByRecursion Q ys
  all_beside Z P Q goes [] [] are all = tt
  all_beside Z P Q goes [] (y ∷ ys) are all = absurd are
  all_beside Z P Q goes (x ∷ xs) [] are all = absurd are
  all_beside Z P Q goes (x ∷ xs) (y ∷ ys) are all = (goes x y are.0 all.0, all_beside Z P Q goes xs ys are.1 all.1)

same_client : (client key : List ℕ) → bytes_eq client key ≡ true → client ≡ key
same_client client key is = (bytes_eq-Decides client key).0 is

itself : (client : List ℕ) → bytes_eq client client ≡ true
itself client = (bytes_eq-Decides client client).1 refl

-- ---- keys, as clients are put among them

-- the client is among these
abbrev Has : List ℕ → List (List ℕ) → Type 0
Has client keys = list_any (bytes_eq client) keys ≡ true

other_than : (client other : List ℕ) (keys : List (List ℕ)) (b : Bool) → bytes_eq client other ≡ b → list_any (bytes_eq client) keys ≡ false → Has other keys → b ≡ false
other_than client other keys false is none has = refl
other_than client other keys true is none has = absurd (true≢false (sym has ∙ ap (λ c. list_any (bytes_eq c) keys) (sym (same_client client other is)) ∙ none))

module _ (keys : List (List ℕ)) (key : List ℕ) where
  distinct_by : (b : Bool) → list_any (bytes_eq key) keys ≡ b → IsDistinct bytes_eq keys → IsDistinct bytes_eq (if b then keys else keys ++ key ∷ [])
  distinct_by true is apart = apart
  distinct_by false is apart = IsDistinct-push nat_list_eq_equiv keys key apart is

  kept_by : (client : List ℕ) (b : Bool) → Has client keys → Has client (if b then keys else keys ++ key ∷ [])
  kept_by client true has = has
  kept_by client false has = list_any-append (bytes_eq client) keys (key ∷ []) ∙ or_left (list_any (bytes_eq client) keys) _ has

  own_by : (b : Bool) → list_any (bytes_eq key) keys ≡ b → Has key (if b then keys else keys ++ key ∷ [])
  own_by true is = is
  own_by false is = list_any-append (bytes_eq key) keys (key ∷ []) ∙ or_right (list_any (bytes_eq key) keys) _ (or_left (bytes_eq key key) _ (itself key))

distinct_all : (keys clients : List (List ℕ)) → IsDistinct bytes_eq keys → IsDistinct bytes_eq (set_all bytes_eq keys clients)
distinct_all keys [] apart = apart
distinct_all keys (client ∷ clients) apart = distinct_all (insert_key bytes_eq keys client) clients (distinct_by keys client (list_any (bytes_eq client) keys) refl apart)

kept_all : (client : List ℕ) (keys clients : List (List ℕ)) → Has client keys → Has client (set_all bytes_eq keys clients)
kept_all client keys [] has = has
kept_all client keys (other ∷ clients) has = kept_all client (insert_key bytes_eq keys other) clients (kept_by keys other client (list_any (bytes_eq other) keys) has)

own_all : (keys clients : List (List ℕ)) → AllByRecursion (λ client. Has client (set_all bytes_eq keys clients)) clients
own_all keys [] = tt
own_all keys (client ∷ clients) =
    let put = insert_key bytes_eq keys client in
    (kept_all client put clients (own_by keys client (list_any (bytes_eq client) keys) refl), own_all put clients)

-- ---- entries, as lanes are put among them

abbrev Entry : Type 0 → Type 0
Entry X = List ℕ × X

abbrev Entries : Type 0 → Type 0
Entries X = List (Entry X)

module _ {X : Type 0} where
  -- no entry is that client's
  abbrev Lacks : List ℕ → Entries X → Type 0
  Lacks client es = AllByRecursion (λ e. bytes_eq client e.0 ≡ false) es

  keys_kept : (f : X → X) (es : Entries X) → keys_of (map (λ e. (e.0, f e.1)) es) ≡ keys_of es
  keys_kept f [] = refl
  keys_kept f (e ∷ es) = ap (λ keys. e.0 ∷ keys) (keys_kept f es)

  found_has : (P : Entry X → Type 0) (client : List ℕ) (x : X) (es : Entries X) → AllByRecursion P es → lookup (bytes_eq client) es ≡ Some x → P (client, x)
  found_has P client x es all found =
      let (k, key, at, same) = place_from_lookup (bytes_eq client) es x found in
      subst (λ c. P (c, x)) (sym (same_client client key same)) (all_at P es k (key, x) all at)

  module _ (k : List ℕ) (x : X) where
    abbrev Put : Bool → Entry X → Entries X → Entries X
    Put b e es = if b then (e.0, x) ∷ es else e ∷ insert_entry bytes_eq es k x

    put_by : (P Q : Entry X → Type 0) → Q (k, x) → ((e : Entry X) → bytes_eq k e.0 ≡ false → P e → Q e)
        → (e : Entry X) (es : Entries X) (b : Bool) → bytes_eq k e.0 ≡ b
        → AllByRecursion (λ key. bytes_eq e.0 key ≡ false) (keys_of es) → P e → AllByRecursion P es
        → AllByRecursion Q (insert_entry bytes_eq es k x) → AllByRecursion Q (Put b e es)
    put_by P Q own other e es true is apart here all rest =
        let key = same_client k e.0 is in
        let own_apart = subst (λ y. AllByRecursion (λ z. bytes_eq y z ≡ false) (keys_of es)) (sym key) apart in
        let away = all_of_mapped (λ f. f.0) (λ y. bytes_eq k y ≡ false) es own_apart in
        (subst (λ y. Q (y, x)) key own, all_both (λ f. bytes_eq k f.0 ≡ false) P Q other es away all)
    put_by P Q own other e es false is apart here all rest = (other e is here, rest)

    all_put : (P Q : Entry X → Type 0) → Q (k, x) → ((e : Entry X) → bytes_eq k e.0 ≡ false → P e → Q e) → (es : Entries X)
        → IsDistinct bytes_eq (keys_of es)
        → AllByRecursion P es → AllByRecursion Q (insert_entry bytes_eq es k x)
    unfolding IsDistinct
    all_put P Q own other [] apart all = (own, tt)
    all_put P Q own other (e ∷ es) apart all =
        put_by P Q own other e es (bytes_eq k e.0) refl apart.0 all.0 all.1 (all_put P Q own other es apart.1 all.1)

  distinct_put : (k : List ℕ) (x : X) (es : Entries X) → IsDistinct bytes_eq (keys_of es) → IsDistinct bytes_eq (keys_of (insert_entry bytes_eq es k x))
  distinct_put k x es apart =
      subst (IsDistinct bytes_eq) (sym (keys_insert_entry bytes_eq es k x)) (distinct_by (keys_of es) k (list_any (bytes_eq k) (keys_of es)) refl apart)

  all_among : (P : Entry X → Type 0) (es lanes : Entries X) → IsDistinct bytes_eq (keys_of es) → AllByRecursion P lanes
      → AllByRecursion (λ e. Lacks e.0 lanes → P e) es
      → AllByRecursion P (insert_all bytes_eq es lanes)
  all_among P es [] apart own others = all_weaker (λ e. Lacks e.0 [] → P e) P (λ e kept. kept tt) es others
  all_among P es (lane ∷ lanes) apart own others =
      let Now : Entry X → Type 0 = λ e. Lacks e.0 (lane ∷ lanes) → P e in
      let Then : Entry X → Type 0 = λ e. Lacks e.0 lanes → P e in
      let stays : (e : Entry X) → bytes_eq lane.0 e.0 ≡ false → Now e → Then e = λ e other has none.
      has (nat_list_eq_equiv.symm e.0 lane.0 ∙ other, none) in
      all_among P (insert_entry bytes_eq es lane.0 lane.1) lanes (distinct_put lane.0 lane.1 es apart) own.1
      (all_put lane.0 lane.1 Now Then (λ none. own.0) stays es apart others)

abbrev Uploads : Type 0 → Type 0
Uploads R = List (UploadState R)

-- the log of that quota keeps what the quota leaves of these messages
record Stands (quota : ℕ) (messages : List Costed) (log : OfClient) : Type 0 where
  quota_is : log.quota ≡ quota
  log_is : log.log ≡ kept_log quota messages

module _ {R : Type 0} where
  -- ---- what a client's log stands for

  stands : (quota : ℕ) (client : List ℕ) (uploads : List (UploadState R)) (messages : List Costed) (log : OfClient)
      → IsLogAfter quota client uploads messages log → Stands quota messages log
  stands quota client [] messages log (none, is) = record {
    quota_is = ap (λ l. l.quota) is;
    log_is = ap (λ l. l.log) is ∙ ap (kept_log quota) (sym none);
  }
  stands quota client (upload ∷ before) messages log (said, earlier, after, lane, taken, more, same) =
      let had = stands quota client before said earlier after in record {
        quota_is = ap (λ l. l.quota) same ∙ taken.goes_on.quota ∙ had.quota_is;
        log_is =
            ap (λ l. l.log) same
            ∙ taken.goes_on.log_is said (had.log_is ∙ ap (λ q. kept_log q said) (sym had.quota_is))
            ∙ ap (λ q. kept_log q (said ++ take lane.taken taken.now.given)) had.quota_is
            ∙ ap (kept_log quota) (sym more);
      }

  -- with the messages that it stands for
  has_log : (quota : ℕ) (rounds : List (Uploads R)) (entry : Entry (LaneResult R)) (messages : List Costed)
      → IsLogAfter quota entry.0 (uploads_of entry.0 rounds) messages entry.1.log → HasLog quota rounds entry
  has_log quota rounds entry messages is = record {
    messages = messages;
    is_log = is;
    kept_are = (stands quota entry.0 (uploads_of entry.0 rounds) messages entry.1.log is).log_is;
  }

  -- ---- a client's uploads

  abbrev own_of : List ℕ → Uploads R → Uploads R
  own_of client uploads = filter (λ upload. bytes_eq client upload.client) uploads

  -- no upload of these rounds is that client's
  abbrev NoneOf : List ℕ → List (Uploads R) → Type 0
  NoneOf client rounds = AllByRecursion (AllByRecursion (λ upload. bytes_eq client upload.client ≡ false)) rounds

  none_of_rounds : (client : List ℕ) (rounds : List (Uploads R)) → NoneOf client rounds → uploads_of client rounds ≡ []
  none_of_rounds client [] none = refl
  none_of_rounds client (uploads ∷ before) none =
      ap (λ own. own ++ uploads_of client before) (none_passes (λ upload. bytes_eq client upload.client) uploads none.0)
      ∙ none_of_rounds client before none.1

  -- it has a new session, and it is its client's only one among these
  record IsNew (uploads : Uploads R) (upload : UploadState R) : Type 0 where
    fresh : upload.lane.earlier ≡ []
    only : own_of upload.client uploads ≡ upload ∷ []

  only_own : (uploads : Uploads R) → IsDistinct bytes_eq (clients_of uploads)
      → AllByRecursion (λ upload. own_of upload.client uploads ≡ upload ∷ []) uploads
  unfolding IsDistinct
  only_own [] apart = tt
  only_own (upload ∷ uploads) apart =
      let Other : UploadState R → Type 0 = λ other. bytes_eq upload.client other.client ≡ false in
      let Only : Uploads R → UploadState R → Type 0 = λ all other. own_of other.client all ≡ other ∷ [] in
      let others = all_of_mapped (λ other. other.client) (λ client. bytes_eq upload.client client ≡ false) uploads apart.0 in
      let passed : (other : UploadState R) → Other other → Only uploads other → Only (upload ∷ uploads) other = λ other differ only.
      cond-false (bytes_eq other.client upload.client) (upload ∷ own_of other.client uploads) (own_of other.client uploads)
      (nat_list_eq_equiv.symm other.client upload.client ∙ differ) ∙ only in (
        cond-true (bytes_eq upload.client upload.client) (upload ∷ own_of upload.client uploads) (own_of upload.client uploads) (itself upload.client)
            ∙ ap (λ rest. upload ∷ rest) (none_passes (λ other. bytes_eq upload.client other.client) uploads others),
        all_both Other (Only uploads) (Only (upload ∷ uploads)) passed uploads others (only_own uploads apart.1),
      )

  -- ---- which clients have an entry

  -- each client once, and those of all uploads
  record Knows (rounds : List (Uploads R)) (gathered : Gathered R) : Type 0 where
    apart : IsDistinct bytes_eq (keys_of gathered.clients.entries)
    has : AllByRecursion (AllByRecursion (λ upload. Has upload.client (keys_of gathered.clients.entries))) rounds

  module _ (quota : ℕ) (before : List (Uploads R)) (earlier : Gathered R) (uploads : Uploads R) (gathered : Gathered R) where
    abbrev stayed : Entries (LaneResult R)
    stayed = map (λ entry. (entry.0, without_lane entry.1)) earlier.clients.entries

    abbrev went : GathersRound quota earlier uploads gathered → Entries (LaneResult R)
    went g = insert_all bytes_eq stayed g.gathers.lanes

    after_round : (g : GathersRound quota earlier uploads gathered) → gathered.clients.entries ≡ map (λ entry. (entry.0, without_reader entry.1)) (went g)
    after_round g = g.clients_are ∙ ap (map (λ entry. (entry.0, without_reader entry.1))) g.gathers.clients_are

    stayed_apart : Knows before earlier → IsDistinct bytes_eq (keys_of stayed)
    stayed_apart knows = subst (IsDistinct bytes_eq) (sym (keys_kept without_lane earlier.clients.entries)) knows.apart

    keys_after : (g : GathersRound quota earlier uploads gathered)
        → keys_of gathered.clients.entries ≡ set_all bytes_eq (keys_of earlier.clients.entries) (clients_of uploads)
    keys_after g =
        ap keys_of (after_round g) ∙ keys_kept without_reader (went g) ∙ keys_insert_all bytes_eq stayed g.gathers.lanes
        ∙ ap (λ keys. set_all bytes_eq keys (keys_of g.gathers.lanes)) (keys_kept without_lane earlier.clients.entries)
        ∙ ap (set_all bytes_eq (keys_of earlier.clients.entries)) (same_keys (get bytes_eq earlier.clients) quota uploads g.gathers.lanes
        (lanes_of (get bytes_eq earlier.clients) quota _ uploads g.gathers.lanes g.gathers.taken.lanes_are))

    round_knows : Knows before earlier → GathersRound quota earlier uploads gathered → Knows (uploads ∷ before) gathered
    round_knows knows g =
        let keys = keys_of earlier.clients.entries in let clients = clients_of uploads in
        let Had : UploadState R → Type 0 = λ upload. Has upload.client keys in
        let Have : UploadState R → Type 0 = λ upload. Has upload.client (set_all bytes_eq keys clients) in record {
          apart = subst (IsDistinct bytes_eq) (sym (keys_after g)) (distinct_all keys clients knows.apart);
          has = subst (λ now. AllByRecursion (AllByRecursion (λ upload. Has upload.client now)) (uploads ∷ before)) (sym (keys_after g)) (
            all_of_mapped (λ upload. upload.client) (λ client. Has client (set_all bytes_eq keys clients)) uploads (own_all keys clients),
            all_weaker (AllByRecursion Had) (AllByRecursion Have) (all_weaker Had Have (λ upload. kept_all upload.client keys clients)) before knows.has,
          );
        }

    -- ---- what a round leaves of each client

    module _ (knows : Knows before earlier) (had : AllByRecursion (HasLog quota before) earlier.clients.entries) where
      -- the log of the client's lane goes on from the one before
      log_on : (upload : UploadState R) (lane : LaneResult R) (known : Option (LaneResult R)) → get bytes_eq earlier.clients upload.client ≡ known
          → upload.lane.earlier ≡ []
          → IsTaken (log_before quota upload known) (resumed_upload upload known) lane
          → (messages : List Costed) × IsLogAfter quota upload.client (upload ∷ uploads_of upload.client before) messages lane.log
      log_on upload lane None is fresh taken =
          let begun = new_log quota upload.client in
          let keys = keys_of earlier.clients.entries in
          let absent = sym (is_some-lookup (bytes_eq upload.client) earlier.clients.entries) ∙ ap is_some is in
          let Had : UploadState R → Type 0 = λ other. Has other.client keys in
          let Other : UploadState R → Type 0 = λ other. bytes_eq upload.client other.client ≡ false in
          let none = none_of_rounds upload.client before (all_weaker (AllByRecursion Had) (AllByRecursion Other)
          (all_weaker Had Other (λ other. other_than upload.client other.client keys (bytes_eq upload.client other.client) refl absent)) before knows.has) in
          let empty = subst (λ us. IsLogAfter quota upload.client us [] begun) (sym none) (refl, refl) in
          ([] ++ take lane.taken taken.now.given, ([], begun, empty, lane, taken, refl, refl))
      log_on upload lane (Some known) is fresh taken =
          let has = found_has (HasLog quota before) upload.client known earlier.clients.entries had is in
          (has.messages ++ take lane.taken taken.now.given, (has.messages, known.log, has.is_log, lane, taken, refl, refl))

      lane_has : (upload : UploadState R) (lane : Entry (LaneResult R)) → IsLaneOf (get bytes_eq earlier.clients) quota upload lane
          → IsNew uploads upload → HasLog quota (uploads ∷ before) lane
      lane_has upload lane is new =
          let (messages, log) = log_on upload lane.1 (get bytes_eq earlier.clients upload.client) refl new.fresh is.is_taken in
          let own = subst (λ own. IsLogAfter quota upload.client (own ++ uploads_of upload.client before) messages lane.1.log) (sym new.only) log in
          has_log quota (uploads ∷ before) lane messages
          (subst (λ client. IsLogAfter quota client (uploads_of client (uploads ∷ before)) messages lane.1.log) (sym is.client) own)

      round_lanes : (g : GathersRound quota earlier uploads gathered) → AllZip (IsLaneOf (get bytes_eq earlier.clients) quota) uploads g.gathers.lanes
      round_lanes g = lanes_of (get bytes_eq earlier.clients) quota _ uploads g.gathers.lanes g.gathers.taken.lanes_are

      -- a client with no upload in the round keeps its log
      stays_has : (g : GathersRound quota earlier uploads gathered) (entry : Entry (LaneResult R)) → HasLog quota before entry
          → Lacks entry.0 g.gathers.lanes
          → HasLog quota (uploads ∷ before) (entry.0, without_lane entry.1)
      stays_has g entry has lacks =
          let Other : List ℕ → Type 0 = λ client. bytes_eq entry.0 client ≡ false in
          let keys = same_keys (get bytes_eq earlier.clients) quota uploads g.gathers.lanes (round_lanes g) in
          let others = all_of_mapped (λ upload. upload.client) Other uploads (subst (AllByRecursion Other) keys (all_mapped (λ e. e.0) Other g.gathers.lanes lacks)) in
          let none = none_passes (λ upload. bytes_eq entry.0 upload.client) uploads others in
          record {
            messages = has.messages;
            is_log = subst (λ own. IsLogAfter quota entry.0 (own ++ uploads_of entry.0 before) has.messages entry.1.log) (sym none) has.is_log;
            kept_are = has.kept_are;
          }

      round_has : AllByRecursion (λ upload. upload.lane.earlier ≡ []) uploads → GathersRound quota earlier uploads gathered
          → AllByRecursion (HasLog quota (uploads ∷ before)) gathered.clients.entries
      round_has fresh g =
          let Has : Entry (LaneResult R) → Type 0 = HasLog quota (uploads ∷ before) in
          let Stays : Entry (LaneResult R) → Type 0 = λ entry. Lacks entry.0 g.gathers.lanes → Has (entry.0, without_lane entry.1) in
          let only = only_own uploads (distinct (clients_of uploads) g.gathers.is_round.clients) in
          let both = all_both (λ upload. upload.lane.earlier ≡ []) (λ upload. own_of upload.client uploads ≡ upload ∷ []) (IsNew uploads)
          (λ upload fresh only. record { fresh = fresh; only = only }) uploads fresh only in
          let new = all_beside (IsLaneOf (get bytes_eq earlier.clients) quota) (IsNew uploads) Has lane_has
          uploads g.gathers.lanes (round_lanes g) both in
          let old = all_mapped (λ entry. (entry.0, without_lane entry.1)) (λ e. Lacks e.0 g.gathers.lanes → Has e) earlier.clients.entries
          (all_weaker (HasLog quota before) Stays (stays_has g) earlier.clients.entries had) in
          let all = all_among Has stayed g.gathers.lanes (stayed_apart knows) new old in
          let gone = all_weaker Has (λ entry. Has (entry.0, without_reader entry.1)) (λ entry has. record { messages = has.messages; is_log = has.is_log; kept_are = has.kept_are }) (went g) all in
          subst (AllByRecursion Has) (sym (after_round g)) (all_mapped (λ entry. (entry.0, without_reader entry.1)) Has (went g) gone)

  -- the client of each upload of a round has an entry then
  pub round_known : (quota : ℕ) (earlier : Gathered R) (uploads : List (UploadState R)) (gathered : Gathered R) → GathersRound quota earlier uploads gathered
      → AllByRecursion (λ upload. IsSome (get bytes_eq gathered.clients upload.client)) uploads
  round_known quota earlier uploads gathered g =
      let keys = keys_of earlier.clients.entries in let clients = clients_of uploads in
      let Have : UploadState R → Type 0 = λ upload. Has upload.client (keys_of gathered.clients.entries) in
      let Known : UploadState R → Type 0 = λ upload. IsSome (get bytes_eq gathered.clients upload.client) in
      all_weaker Have Known (λ upload has. is_some-lookup (bytes_eq upload.client) gathered.clients.entries ∙ has) uploads
      (subst (λ now. AllByRecursion (λ upload. Has upload.client now) uploads) (sym (keys_after quota [] earlier uploads gathered g))
      (all_of_mapped (λ upload. upload.client) (λ client. Has client (set_all bytes_eq keys clients)) uploads (own_all keys clients)))

  -- ---- all rounds

  rounds_know : (quota : ℕ) (rounds : List (Uploads R)) (gathered : Gathered R) → GathersRounds quota rounds gathered → Knows rounds gathered
  unfolding IsDistinct
  rounds_know quota [] gathered empty = record { apart = subst (λ es. IsDistinct bytes_eq (keys_of es)) (sym empty.0) tt; has = tt }
  rounds_know quota (uploads ∷ before) gathered (earlier, gathers, g) =
      round_knows quota before earlier uploads gathered (rounds_know quota before earlier gathers) g

  -- each client's log is the one after its own uploads, where each upload came with a new session
  pub rounds_have : (quota : ℕ) (rounds : List (List (UploadState R))) (gathered : Gathered R)
      → AllByRecursion (AllByRecursion (λ upload. upload.lane.earlier ≡ [])) rounds
      → GathersRounds quota rounds gathered → AllByRecursion (HasLog quota rounds) gathered.clients.entries
  rounds_have quota [] gathered fresh empty = subst (AllByRecursion (HasLog quota [])) (sym empty.0) tt
  rounds_have quota (uploads ∷ before) gathered fresh (earlier, gathers, g) =
      let knows = rounds_know quota before earlier gathers in
      let had = rounds_have quota before earlier fresh.1 gathers in
      round_has quota before earlier uploads gathered knows had fresh.0 g

  -- the client of each upload has an entry
  pub uploads_known : (quota : ℕ) (rounds : List (List (UploadState R))) (gathered : Gathered R) → GathersRounds quota rounds gathered
      → AllByRecursion (AllByRecursion (λ upload. IsSome (get bytes_eq gathered.clients upload.client))) rounds
  uploads_known quota rounds gathered gathers =
      let Had : UploadState R → Type 0 = λ upload. Has upload.client (keys_of gathered.clients.entries) in
      let Known : UploadState R → Type 0 = λ upload. IsSome (get bytes_eq gathered.clients upload.client) in
      all_weaker (AllByRecursion Had) (AllByRecursion Known)
      (all_weaker Had Known (λ upload has. is_some-lookup (bytes_eq upload.client) gathered.clients.entries ∙ has)) rounds (rounds_know quota rounds gathered gathers).has

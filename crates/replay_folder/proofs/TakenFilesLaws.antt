-- What was taken of uploads, one name after another, round by round.
use Rattle.std.proofs.Common.{◌≡◌, ℕ, ◌+◌, ◌<◌, ◌≤◌, List, [], ◌∷◌, ◌++◌, length, map, take, drop, slice_get, get_or, flat_map, bytes_eq, Bool, true, false, ◌||◌, Option, Some, None, Result, Ok, Err, ◌⊎◌, inl, inr, refl, sym, ap, ap₂, subst, ◌∙◌, true≢false, append-nil, append_assoc, suc, arith, length-append, zero}
use Rattle.std.specs.List.{AllByRecursion, AllZip, list_any}
use Rattle.std.specs.Option.{IsSome, option_map_or}
use Rattle.std.specs.Cmp.Lexicographic.{nat_list_eq_equiv}
use Rattle.std.specs.declared.io.Error.{Error}
use Rattle.std.proofs.lemmas.Grind.{flat_map-append}
use Rattle.std.proofs.lemmas.List.{map-append, length-map, take_more}
use Rattle.std.proofs.lemmas.List.Folds.{list_any-append}
use Rattle.indexmap.specs.IndexMap.{get}
use Rattle.byte_streams.specs.Answers.{Answer}
use Rattle.upload_reader.specs.Upload.{UploadState}
use Rattle.lanes_in_turn.specs.Round.{has_twice, clients_of, max_round_lanes, without_lanes}
use Rattle.lanes_in_turn.specs.declared.gathered.Gathered.{Gathered}
use Rattle.lanes_in_turn.specs.declared.gathered.LaneResult.{LaneResult}
use Rattle.lanes_in_turn.specs.declared.gathered.Stop.TheVariants as stops
use Rattle.warp_run.specs.Shortage.{status_by, status_of}
use Rattle.warp_run.specs.declared.status.Status.{Status}
use Rattle.warp_run.specs.declared.status.Status.TheVariants.{Done, BadSite, BadHello, OutOfMemory, InputOutput}
use Rattle.warp_server.specs.program.Callers.{IsGreeted, RoundIsRead}
use Rattle.warp_server.proofs.RoundsLaws.{round_known}
use Rattle.replay_folder.specs.Ends.{TakenUpload, FileEnd, unopened, taken_so, left_unread, IsEndOf, told_end, taken_upload, is_unread, AreUnreadLast}
use Rattle.replay_folder.specs.Taking.{in_order, uploads_of_round, IsToldBy, TakesRound, TakesRounds}
use Rattle.replay_folder.specs.inside.{GreetsNamed, HasTakenFiles, HasTakenSoFar, IsTaking, Holds, LeavesUnread, AreReady, AreHeld, AreTriedAlone, KeepsLogs, Closes, MakesRoom, is_short, held_as, held_upload, held_end, told_by_lane}
use Rattle.replay_folder.specs.declared.ends.UploadEnd.{UploadEnd}
use Rattle.replay_folder.specs.declared.ends.UploadEnd.TheVariants as upload_end
use Rattle.replay_folder.specs.declared.names.Named.{Named}
use Rattle.replay_folder.specs.declared.names.Named.TheVariants.{File, Unlisted}
use Rattle.replay_folder.specs.declared.open_round.OpenRound.{OpenRound}
use Rattle.replay_folder.specs.declared.open_round.TakenFiles.{TakenFiles}

-- ---- lists

zip_append : {X Y : Type 0} (P : X → Y → Type 0) (xs more : List X) (ys others : List Y) → AllZip P xs ys → AllZip P more others → AllZip P (xs ++ more) (ys ++ others)
zip_append P [] more [] others all rest = rest
zip_append P [] more (y ∷ ys) others all rest = absurd all
zip_append P (x ∷ xs) more [] others all rest = absurd all
zip_append P (x ∷ xs) more (y ∷ ys) others all rest = (all.0, zip_append P xs more ys others all.1 rest)

-- what stands at a place of both stands in the one or in the other
pub split_at : {X : Type 0} (xs ys : List X) (k : ℕ) (x : X) → slice_get (xs ++ ys) k ≡ Some x
    → ((slice_get xs k ≡ Some x) × (take k (xs ++ ys) ≡ take k xs)) ⊎ ((j : ℕ) × (slice_get ys j ≡ Some x) × (take k (xs ++ ys) ≡ xs ++ take j ys))
split_at [] ys k x at = inr (k, at, refl)
split_at (y ∷ xs) ys zero x at = inl (at, refl)
split_at (y ∷ xs) ys (suc k) x at = elim (split_at xs ys k x at) [
  | inl (here, same) ↦ inl (here, ap (λ all. y ∷ all) same)
  | inr (j, there, same) ↦ inr (j, there, ap (λ all. y ∷ all) same)
]

pub zip_length : {X Y : Type 0} (P : X → Y → Type 0) (xs : List X) (ys : List Y) → AllZip P xs ys → length xs ≡ length ys
zip_length P [] [] all = refl
zip_length P [] (y ∷ ys) all = absurd all
zip_length P (x ∷ xs) [] all = absurd all
zip_length P (x ∷ xs) (y ∷ ys) all = ap suc (zip_length P xs ys all.1)

pub all_append : {X : Type 0} (P : X → Type 0) (xs more : List X) → AllByRecursion P xs → AllByRecursion P more → AllByRecursion P (xs ++ more)
all_append P [] more all rest = rest
all_append P (x ∷ xs) more all rest = (all.0, all_append P xs more all.1 rest)

pub take_here : {A : Type 0} (xs : List A) (i : ℕ) (x : A) → i < length xs → x ≡ get_or xs i x → take (i + 1) xs ≡ take i xs ++ x ∷ []
take_here xs i x below is = take_more xs i x below ∙ ap (λ y. take i xs ++ y ∷ []) (sym is)

is_there : {X : Type 0} (found : Option X) → IsSome found → (x : X) × (found ≡ Some x)
is_there None some = cc
is_there (Some x) some = (x, refl)

pub some_listed : {X : Type 0} (xs : List X) → (xs ≡ [] → ⊥) → 1 ≤ length xs
some_listed [] some = absurd (some refl)
some_listed (x ∷ xs) some = omega arith

pub none_mapped : {X Y : Type 0} (f : X → Y) (xs : List X) → map f xs ≡ [] → xs ≡ []
none_mapped f [] none = refl
none_mapped f (x ∷ xs) none = cc

pub none_zipped : {X Y : Type 0} (P : X → Y → Type 0) (xs : List X) (ys : List Y) → AllZip P xs ys → xs ≡ [] → ys ≡ []
none_zipped P [] [] all none = refl
none_zipped P [] (y ∷ ys) all none = absurd all
none_zipped P (x ∷ xs) ys all none = cc

pub is_whole : (status : Status) → is_short status ≡ false → status ≡ Done
is_whole Done whole = refl
is_whole BadSite whole = cc
is_whole BadHello whole = cc
is_whole OutOfMemory whole = cc
is_whole InputOutput whole = cc

pub is_no_whole : (status : Status) → is_short status ≡ true → status ≡ Done → ⊥
is_no_whole status short whole = true≢false (sym short ∙ ap is_short whole)

-- ---- what is left unread

front_read : (ends more : List UploadEnd) → list_any is_unread ends ≡ false → list_any is_unread more ≡ false → AreUnreadLast (ends ++ more)
front_read ends more read more_read = record {
  read = ends ++ more;
  unread = [];
  are = sym (append-nil (ends ++ more));
  each_read = list_any-append is_unread ends more ∙ ap₂ (λ a b. a || b) read more_read;
  none_read = tt;
}

front_unread : (ends : List UploadEnd) → AreUnreadLast ends → AreUnreadLast (ends ++ upload_end.Unread ∷ [])
front_unread ends front = record {
  read = front.read;
  unread = front.unread ++ upload_end.Unread ∷ [];
  are = ap (λ all. all ++ upload_end.Unread ∷ []) front.are ∙ append_assoc front.read front.unread (upload_end.Unread ∷ []);
  each_read = front.each_read;
  none_read = all_append (λ end. is_unread end ≡ true) front.unread (upload_end.Unread ∷ []) front.none_read (refl, tt);
}

front_same : (ends more : List UploadEnd) → more ≡ [] → AreUnreadLast ends → AreUnreadLast (ends ++ more)
front_same ends more none front = subst AreUnreadLast (sym (ap (λ all. ends ++ all) none ∙ append-nil ends)) front

both_false : (a b : Bool) → (a || b) ≡ false → (a ≡ false) × (b ≡ false)
both_false false b none = (refl, none)
both_false true b none = cc

-- ---- clients of a round

pub any_client : {R : Type 0} (client : List ℕ) (uploads : List (UploadState R)) → list_any (bytes_eq client) (clients_of uploads) ≡ list_any (λ upload. bytes_eq client upload.client) uploads
any_client client [] = refl
any_client client (upload ∷ uploads) = ap (λ b. bytes_eq client upload.client || b) (any_client client uploads)

apart_push : (clients : List (List ℕ)) (client : List ℕ) → has_twice clients ≡ false → list_any (bytes_eq client) clients ≡ false → has_twice (clients ++ client ∷ []) ≡ false
apart_push [] client apart other = refl
apart_push (first ∷ clients) client apart other =
    let (alone, rest) = both_false _ _ apart in
    let (differs, others) = both_false _ _ other in
    ap₂ (λ a b. a || b)
    (list_any-append (bytes_eq first) clients (client ∷ []) ∙ ap₂ (λ a b. a || b) alone (ap (λ b. b || false) (nat_list_eq_equiv.symm first client ∙ differs)))
    (apart_push clients client rest others)

module _ {R : Type 0} where
  pub none_ready : (uploads : List (UploadState R)) → uploads ≡ [] → AreReady uploads
  none_ready uploads none = subst AreReady (sym none) (record { greeted = tt; few = omega arith; apart = refl })

  pub ready_more : (old new : List (UploadState R)) (upload : UploadState R) → new ≡ old ++ upload ∷ [] → IsGreeted upload → length old < max_round_lanes
      → list_any (λ one. bytes_eq upload.client one.client) old ≡ false → AreReady old → AreReady new
  ready_more old new upload is greeted few other ready = subst AreReady (sym is) (record {
    greeted = all_append IsGreeted old (upload ∷ []) ready.greeted (greeted, tt);
    few = subst (λ n. n ≤ max_round_lanes) (sym (length-append old (upload ∷ []))) (omega (arith, few));
    apart = ap has_twice (map-append (λ one. one.client) old (upload ∷ [])) ∙ apart_push (clients_of old) upload.client ready.apart (any_client upload.client old ∙ other);
  })

module _ {R : Type 0} (was_read : R → R → List Answer → Type 0) (opened : List ℕ → Result R Error → Type 0) where
  unread_end : (named : Named) → IsEndOf opened was_read named left_unread
  unread_end (File name) = tt
  unread_end (Unlisted word) = tt

  -- ---- names that can't be opened

  abbrev IsShut : List (FileEnd R) → List (Result (UploadState R) UploadEnd) → Type 0
  IsShut files said = (k : ℕ) → slice_get files k ≡ Some unopened → slice_get said k ≡ Some (Err upload_end.Unopened)

  abbrev NoneTaken : List (FileEnd R) → Type 0
  NoneTaken files = (k : ℕ) → slice_get files k ≡ Some unopened → flat_map taken_upload (take k files) ≡ []

  some_same : {X : Type 0} (x y : X) → Some x ≡ Some y → x ≡ y
  some_same x y same = cc

  shut_behind : (file : FileEnd R) (files : List (FileEnd R)) (one : Result (UploadState R) UploadEnd) (said : List (Result (UploadState R) UploadEnd)) → (file ≡ unopened → one ≡ Err upload_end.Unopened) → IsShut files said
      → IsShut (file ∷ files) (one ∷ said)
  shut_behind file files one said first rest zero at = ap Some (first (some_same file unopened at))
  shut_behind file files one said first rest (suc k) at = rest k at

  -- behind an upload there is none
  none_behind : (one : TakenUpload R) (files : List (FileEnd R)) (upload : UploadState R) (said : List (Result (UploadState R) UploadEnd)) → IsShut files said → AreTriedAlone (Ok upload ∷ said) → NoneTaken (taken_so one ∷ files)
  none_behind one files upload said shut tried zero at = cc
  none_behind one files upload said shut tried (suc k) at = let taken : upload ∷ flat_map held_upload (take k said) ≡ [] = tried (suc k) (shut k at) in cc

  none_before : (file : FileEnd R) (files : List (FileEnd R)) → taken_upload file ≡ [] → NoneTaken files → NoneTaken (file ∷ files)
  none_before file files none rest zero at = refl
  none_before file files none rest (suc k) at = ap (λ own. own ++ flat_map taken_upload (take k files)) none ∙ rest k at

  -- the last one
  alone_last : (said : List (Result (UploadState R) UploadEnd)) (one : Result (UploadState R) UploadEnd) (k : ℕ) → slice_get (one ∷ []) k ≡ Some (Err upload_end.Unopened)
      → (one ≡ Err upload_end.Unopened → flat_map held_upload said ≡ []) → flat_map held_upload (said ++ take k (one ∷ [])) ≡ []
  alone_last said one zero at none = ap (flat_map held_upload) (append-nil said) ∙ none (some_same one (Err upload_end.Unopened) at)
  alone_last said one (suc k) at none = cc

  no_shut : NoneTaken (left_unread ∷ [])
  no_shut zero at = cc
  no_shut (suc k) at = cc

  -- ---- what became of the names of a round

  module _ (gathered : Gathered R) where
    abbrev ends_of : List (Result (UploadState R) UploadEnd) → List UploadEnd
    ends_of said = map (held_end gathered) (map held_as said)

    record AreTold (waiting : List Named) (said : List (Result (UploadState R) UploadEnd)) : Type 0 where
      files : List (FileEnd R)
      ones : List (TakenUpload R)
      told : map told_end files ≡ ends_of said
      each : AllZip (IsEndOf opened was_read) waiting files
      taken : flat_map taken_upload files ≡ ones
      uploads_are : uploads_of_round ones ≡ flat_map held_upload said
      by_lanes : AllByRecursion (IsToldBy gathered) ones
      read : list_any is_unread (ends_of said) ≡ false
      shut : IsShut files said
      alone : AreTriedAlone said → NoneTaken files

    all_told : (waiting : List Named) (said : List (Result (UploadState R) UploadEnd)) → AllZip (GreetsNamed was_read opened) waiting said
        → AllByRecursion (λ upload. IsSome (get bytes_eq gathered.clients upload.client)) (flat_map held_upload said) → AreTold waiting said
    all_told [] [] greets known = record { files = []; ones = []; told = refl; each = tt; taken = refl; uploads_are = refl; by_lanes = tt; read = refl; shut = λ k at. cc; alone = λ tried k at. cc }
    all_told [] (one ∷ said) greets known = absurd greets
    all_told (named ∷ waiting) [] greets known = absurd greets
    all_told (named ∷ waiting) (Ok upload ∷ said) ((name, is, opens, greeted), greets) known =
        let rest = all_told waiting said greets known.1 in
        let (lane, there) = is_there (get bytes_eq gathered.clients upload.client) known.0 in
        let one : TakenUpload R = record { upload = upload; taken = lane.taken; end = lane.end } in
        let end : told_by_lane gathered upload.client ≡ told_end (taken_so one) =
        ap (λ found. option_map_or (λ (lane : LaneResult R). upload_end.Taken upload.client lane.taken lane.end) found upload_end.Unread) there in
        let own : IsEndOf opened was_read (File name) (taken_so one) = opens in record {
          files = taken_so one ∷ rest.files;
          ones = one ∷ rest.ones;
          told = ap₂ (λ e es. e ∷ es) (sym end) rest.told;
          each = (subst (λ n. IsEndOf opened was_read n (taken_so one)) (sym is) own, rest.each);
          taken = ap (λ all. one ∷ all) rest.taken;
          uploads_are = ap (λ all. upload ∷ all) rest.uploads_are;
          by_lanes = ((lane, there, refl, refl), rest.by_lanes);
          read = ap (λ e. is_unread e || list_any is_unread (ends_of said)) end ∙ rest.read;
          shut = shut_behind (taken_so one) rest.files (Ok upload) said (λ is. cc) rest.shut;
          alone = none_behind one rest.files upload said rest.shut;
        }
    all_told (named ∷ waiting) (Err end ∷ said) ((file, told, none, read, is_end), greets) known =
        let rest = all_told waiting said greets known in record {
          files = file ∷ rest.files;
          ones = rest.ones;
          told = ap₂ (λ e es. e ∷ es) told rest.told;
          each = (is_end, rest.each);
          taken = ap (λ own. own ++ flat_map taken_upload rest.files) none ∙ rest.taken;
          uploads_are = rest.uploads_are;
          by_lanes = rest.by_lanes;
          read = ap (λ b. b || list_any is_unread (ends_of said)) read ∙ rest.read;
          shut = shut_behind file rest.files (Err end) said (λ is. ap Err (sym told ∙ ap told_end is)) rest.shut;
          alone = λ tried. none_before file rest.files none (rest.alone (λ k at. tried (suc k) at));
        }

  module _ (quota : ℕ) where
    abbrev HasTaken : List Named → List UploadEnd → Gathered R → Type 0
    HasTaken = HasTakenFiles was_read opened quota

    abbrev Taking : List Named → OpenRound R → Type 0
    Taking = IsTaking was_read opened quota

    none_taken : (gathered : Gathered R) → gathered.clients.entries ≡ [] → gathered.stop ≡ stops.None → HasTaken [] [] gathered
    none_taken gathered none stop = record {
      rounds = [];
      takes = (none, stop);
      files = record { files = []; told = refl; each = tt; taken = refl; whole = λ done. refl; front = record { read = []; unread = []; are = refl; each_read = refl; none_read = tt }; alone = λ k at. cc };
    }

    -- ---- more names, with what became of them

    files_more : (named others : List Named) (ends more : List UploadEnd) (earlier gathered : Gathered R) (had : HasTaken named ends earlier)
        (rounds : List (List (TakenUpload R))) (files : List (FileEnd R)) (ones : List (TakenUpload R))
        → map told_end files ≡ more → AllZip (IsEndOf opened was_read) others files → flat_map taken_upload files ≡ ones → in_order rounds ≡ in_order had.rounds ++ ones
        → (status_of gathered ≡ Done → (status_of earlier ≡ Done) × (list_any is_unread more ≡ false)) → AreUnreadLast (ends ++ more) → TakesRounds was_read quota rounds gathered
        → NoneTaken files → ((n : ℕ) → (m : ℕ) × (drop m rounds ≡ drop n had.rounds)) → HasTaken (named ++ others) (ends ++ more) gathered
    files_more named others ends more earlier gathered had rounds files ones told each taken order whole front takes none older = record {
      rounds = rounds;
      takes = takes;
      files = record {
        files = had.files.files ++ files;
        told = map-append told_end had.files.files files ∙ ap₂ (λ a b. a ++ b) had.files.told told;
        each = zip_append (IsEndOf opened was_read) named others had.files.files files had.files.each each;
        taken = order ∙ ap₂ (λ a b. a ++ b) had.files.taken (sym taken) ∙ sym (flat_map-append taken_upload had.files.files files);
        whole = λ done. list_any-append is_unread ends more ∙ ap₂ (λ a b. a || b) (had.files.whole (whole done).0) (whole done).1;
        front = front;
        alone = λ k at. elim (split_at had.files.files files k unopened at) [
          | inl (here, same) ↦ let (n, is) = had.files.alone k here in let (m, deeper) = older n in (m, ap in_order deeper ∙ is ∙ ap (flat_map taken_upload) (sym same))
          | inr (j, there, same) ↦ let (m, deeper) = older 0 in (
            m,
            ap in_order deeper ∙ had.files.taken
                ∙ sym (ap (flat_map taken_upload) same ∙ flat_map-append taken_upload had.files.files (take j files)
                ∙ ap (λ all. flat_map taken_upload had.files.files ++ all) (none j there) ∙ append-nil (flat_map taken_upload had.files.files)),
          )
        ];
      };
    }

    -- a name of which nothing was read
    unread_more : (named : List Named) (one : Named) (ends : List UploadEnd) (gathered : Gathered R) → (status_of gathered ≡ Done → ⊥) → HasTaken named ends gathered
        → HasTaken (named ++ one ∷ []) (ends ++ upload_end.Unread ∷ []) gathered
    unread_more named one ends gathered short had =
        files_more named (one ∷ []) ends (upload_end.Unread ∷ []) gathered gathered had had.rounds (left_unread ∷ []) [] refl (unread_end one, tt) refl (sym (append-nil (in_order had.rounds)))
        (λ done. absurd (short done)) (front_unread ends had.files.front) had.takes no_shut (λ n. (n, refl))

    -- the names of a round, in which there is an upload, or none
    module _ (named waiting : List Named) (ends : List UploadEnd) (earlier gathered : Gathered R) (said : List (Result (UploadState R) UploadEnd))
        (had : HasTaken named ends earlier) (greets : AllZip (GreetsNamed was_read opened) waiting said) (tried : AreTriedAlone said) where
      abbrev uploads : List (UploadState R)
      uploads = flat_map held_upload said

      nothing_more : uploads ≡ [] → gathered ≡ earlier → (status_of earlier ≡ Done) ⊎ (waiting ≡ []) → HasTaken (named ++ waiting) (ends ++ map (held_end gathered) (map held_as said)) gathered
      nothing_more none same going =
          let told = all_told gathered waiting said greets (subst (AllByRecursion (λ upload. IsSome (get bytes_eq gathered.clients upload.client))) (sym none) tt) in
          let no_ones : told.ones ≡ [] = none_mapped (λ one. one.upload) told.ones (told.uploads_are ∙ none) in
          let front : AreUnreadLast (ends ++ ends_of gathered said) = elim going [
            | inl done ↦ front_read ends (ends_of gathered said) (had.files.whole done) told.read
            | inr empty ↦ front_same ends (ends_of gathered said) (ap (ends_of gathered) (none_zipped (GreetsNamed was_read opened) waiting said greets empty)) had.files.front
          ] in
          files_more named waiting ends _ earlier gathered had had.rounds told.files [] told.told told.each (told.taken ∙ no_ones) (sym (append-nil (in_order had.rounds)))
          (λ done. (ap status_of (sym same) ∙ done, told.read)) front (subst (TakesRounds was_read quota had.rounds) (sym same) had.takes) (told.alone tried) (λ n. (n, refl))

      round_more : AllByRecursion IsGreeted uploads → RoundIsRead was_read quota earlier uploads gathered → HasTaken (named ++ waiting) (ends ++ map (held_end gathered) (map held_as said)) gathered
      round_more greeted read =
          let told = all_told gathered waiting said greets (round_known quota earlier uploads gathered read.0) in
          let round : TakesRound was_read quota earlier told.ones gathered = record {
            greeted = subst (AllByRecursion IsGreeted) (sym told.uploads_are) greeted;
            read = subst (λ all. RoundIsRead was_read quota earlier all gathered) (sym told.uploads_are) read;
            told = told.by_lanes;
          } in
          files_more named waiting ends _ earlier gathered had (told.ones ∷ had.rounds) told.files told.ones told.told told.each told.taken refl
          (λ done. (read.0.whole, told.read)) (front_read ends _ (had.files.whole read.0.whole) told.read) (earlier, had.takes, round) (told.alone tried) (λ n. (suc n, refl))

    -- ---- the round that is open

    abbrev Behind : List Named → TakenFiles R → Type 0
    Behind = HasTakenSoFar was_read opened quota

    pub none_held : (round : OpenRound R) → round.held.items ≡ [] → round.uploads.items ≡ [] → AreHeld round
    none_held round held uploads = record { said = []; held = held; uploads = uploads }

    -- nothing waits
    pub none_waiting : (named : List Named) (round : OpenRound R) → Behind named round.taken → round.held.items ≡ [] → round.uploads.items ≡ [] → Taking named round
    unfolding none_held
    none_waiting named round behind held uploads = record {
      done = named;
      waiting = [];
      named_are = sym (append-nil named);
      behind = behind;
      are = none_held round held uploads;
      greets = tt;
      alone = λ k at. cc;
      ready = none_ready round.uploads.items uploads;
      going = inr refl;
    }

    first_status : (gathered : Gathered R) → gathered.clients.entries ≡ [] → gathered.stop ≡ stops.None → status_of gathered ≡ Done
    first_status gathered none stop = ap₂ (λ why entries. status_by why (map (λ entry. entry.1) entries)) stop none

    first_rested : (gathered : Gathered R) → gathered.clients.entries ≡ [] → KeepsLogs gathered gathered
    first_rested gathered none = record { clients = none ∙ ap without_lanes (sym none); stop = refl }

    pub first_taking : (round : OpenRound R) → round.taken.gathered.clients.entries ≡ [] → round.taken.gathered.stop ≡ stops.None → round.taken.ends.items ≡ [] → round.taken.status ≡ Done
        → round.held.items ≡ [] → round.uploads.items ≡ [] → Taking [] round
    first_taking round none stop ends status held uploads =
        none_waiting [] round
        (record {
          gathered = round.taken.gathered;
          keeps = first_rested round.taken.gathered none;
          status = status ∙ sym (first_status round.taken.gathered none stop);
          has = subst (λ ends. HasTaken [] ends round.taken.gathered) (sym ends) (none_taken round.taken.gathered none stop);
        })
        held uploads

    -- a name more waits
    pub held_more : (old new : OpenRound R) (said : Result (UploadState R) UploadEnd) → Holds old said new → AreHeld old → AreHeld new
    held_more old new said holds are = record {
      said = are.said ++ said ∷ [];
      held = holds.held ∙ ap (λ all. all ++ held_as said ∷ []) are.held ∙ sym (map-append held_as are.said (said ∷ []));
      uploads = holds.uploads ∙ ap₂ (λ a b. a ++ b) are.uploads (sym (append-nil (held_upload said))) ∙ sym (flat_map-append held_upload are.said (said ∷ []));
    }

    alone_more : (said : List (Result (UploadState R) UploadEnd)) (one : Result (UploadState R) UploadEnd) → (one ≡ Err upload_end.Unopened → flat_map held_upload said ≡ []) → AreTriedAlone said → AreTriedAlone (said ++ one ∷ [])
    alone_more said one last alone k at = elim (split_at said (one ∷ []) k (Err upload_end.Unopened) at) [
      | inl (here, same) ↦ ap (flat_map held_upload) same ∙ alone k here
      | inr (j, there, same) ↦ ap (flat_map held_upload) same ∙ alone_last said one j there last
    ]

    pub taking_held : (before : List Named) (named : Named) (old new : OpenRound R) (said : Result (UploadState R) UploadEnd) → GreetsNamed was_read opened named said → Holds old said new
        → old.taken.status ≡ Done → (said ≡ Err upload_end.Unopened → old.uploads.items ≡ []) → (AreReady old.uploads.items → AreReady new.uploads.items) → Taking before old → Taking (before ++ named ∷ []) new
    unfolding held_more
    taking_held before named old new said greets holds whole none ready had = record {
      done = had.done;
      waiting = had.waiting ++ named ∷ [];
      named_are = ap (λ all. all ++ named ∷ []) had.named_are ∙ append_assoc had.done had.waiting (named ∷ []);
      behind = subst (Behind had.done) (sym holds.taken) had.behind;
      are = held_more old new said holds had.are;
      greets = zip_append (GreetsNamed was_read opened) had.waiting (named ∷ []) had.are.said (said ∷ []) had.greets (greets, tt);
      alone = alone_more had.are.said said (λ shut. sym had.are.uploads ∙ none shut) had.alone;
      ready = ready had.ready;
      going = inl (ap (λ taken. taken.status) holds.taken ∙ whole);
    }

    pub end_held : (before : List Named) (named : Named) (old new : OpenRound R) (end : UploadEnd) → GreetsNamed was_read opened named (Err end) → Holds old (Err end) new
        → old.taken.status ≡ Done → (end ≡ upload_end.Unopened → old.uploads.items ≡ []) → Taking before old → Taking (before ++ named ∷ []) new
    end_held before named old new end greets holds whole none =
        taking_held before named old new (Err end) greets holds whole (λ shut. none (let same : end ≡ upload_end.Unopened = cc in same))
        (λ ready. subst AreReady (sym (holds.uploads ∙ append-nil old.uploads.items)) ready)

    pub upload_held : (before : List Named) (named : Named) (old new : OpenRound R) (upload : UploadState R) → GreetsNamed was_read opened named (Ok upload) → Holds old (Ok upload) new
        → old.taken.status ≡ Done → length old.uploads.items < max_round_lanes → list_any (λ one. bytes_eq upload.client one.client) old.uploads.items ≡ false
        → Taking before old → Taking (before ++ named ∷ []) new
    upload_held before named old new upload greets holds whole few other =
        let (name, is, opens, greeted) = greets in
        taking_held before named old new (Ok upload) greets holds whole (λ shut. cc) (ready_more old.uploads.items new.uploads.items upload holds.uploads greeted few other)

    pub upload_alone : (before : List Named) (named : Named) (old new : OpenRound R) (upload : UploadState R) → GreetsNamed was_read opened named (Ok upload) → Holds old (Ok upload) new
        → old.taken.status ≡ Done → old.uploads.items ≡ [] → Taking before old → Taking (before ++ named ∷ []) new
    upload_alone before named old new upload greets holds whole none =
        upload_held before named old new upload greets holds whole (subst (λ uploads. length uploads < max_round_lanes) (sym none) (omega arith))
        (ap (list_any (λ one. bytes_eq upload.client one.client)) none)

    -- where memory was refused, a name more is told
    none_waits : (round : OpenRound R) (waiting : List Named) → (round.taken.status ≡ Done → ⊥) → (round.taken.status ≡ Done) ⊎ (waiting ≡ []) → waiting ≡ []
    none_waits round waiting short (inl done) = absurd (short done)
    none_waits round waiting short (inr none) = none

    pub unread_told : (before : List Named) (named : Named) (old new : OpenRound R) → (old.taken.status ≡ Done → ⊥) → LeavesUnread old new → Taking before old → Taking (before ++ named ∷ []) new
    unread_told before named old new short leaves had =
        let none = none_waits old had.waiting short had.going in
        let none_said = none_zipped (GreetsNamed was_read opened) had.waiting had.are.said had.greets none in
        let all : before ≡ had.done = had.named_are ∙ ap (λ waiting. had.done ++ waiting) none ∙ append-nil had.done in
        let now = had.behind in
        none_waiting (before ++ named ∷ []) new
        (record {
          gathered = now.gathered;
          keeps = subst (λ kept. KeepsLogs kept now.gathered) (sym leaves.gathered) now.keeps;
          status = leaves.status ∙ now.status;
          has = subst (λ ends. HasTaken (before ++ named ∷ []) ends now.gathered) (sym leaves.ends)
              (unread_more before named old.taken.ends.items now.gathered (λ done. short (now.status ∙ done)) (subst (λ n. HasTaken n old.taken.ends.items now.gathered) (sym all) now.has));
        })
        (leaves.held ∙ had.are.held ∙ ap (map held_as) none_said) (leaves.uploads ∙ had.are.uploads ∙ ap (flat_map held_upload) none_said)

    -- ---- it is taken

    pub taking_closed : (before : List Named) (round : OpenRound R) (taken : TakenFiles R) → Closes was_read quota round taken → Taking before round → Behind before taken
    taking_closed before round taken closes had =
        let earlier = had.behind.gathered in
        let closed = closes earlier had.behind.keeps had.behind.status in
        let gathered = closed.gathered in
        let said = had.are.said in
        let told : taken.ends.items ≡ round.taken.ends.items ++ map (held_end gathered) (map held_as said) = closed.told ∙ ap (λ held. round.taken.ends.items ++ map (held_end gathered) held) had.are.held in
        let has : HasTaken (had.done ++ had.waiting) (round.taken.ends.items ++ map (held_end gathered) (map held_as said)) gathered = elim closed.takes [
          | inl nothing ↦ nothing_more had.done had.waiting round.taken.ends.items earlier gathered said had.behind.has had.greets had.alone (sym had.are.uploads ∙ nothing.0) nothing.1
              (elim had.going [ inl done ↦ inl (sym had.behind.status ∙ done) | inr none ↦ inr none ])
          | inr read ↦ round_more had.done had.waiting round.taken.ends.items earlier gathered said had.behind.has had.greets had.alone
              (subst (AllByRecursion IsGreeted) had.are.uploads had.ready.greeted) (subst (λ all. RoundIsRead was_read quota earlier all gathered) had.are.uploads read)
        ] in record {
          gathered = gathered;
          keeps = closed.keeps;
          status = closed.status;
          has = subst (λ named. HasTaken named taken.ends.items gathered) (sym had.named_are) (subst (λ ends. HasTaken (had.done ++ had.waiting) ends gathered) (sym told) has);
        }

    pub taking_room : (before : List Named) (old new : OpenRound R) → MakesRoom was_read quota old new → Taking before old → Taking before new
    taking_room before old new (inl same) had = subst (Taking before) (sym same) had
    taking_room before old new (inr (closes, held, uploads)) had = none_waiting before new (taking_closed before old new.taken closes had) held uploads

    pub may_close : (before : List Named) (round : OpenRound R) → Taking before round → (round.taken.status ≡ Done) ⊎ (round.uploads.items ≡ [])
    may_close before round had = elim had.going [
      | inl done ↦ inl done
      | inr none ↦ inr (had.are.uploads ∙ ap (flat_map held_upload) (none_zipped (GreetsNamed was_read opened) had.waiting had.are.said had.greets none))
    ]

    pub files_length : (named : List Named) (ends : List UploadEnd) (gathered : Gathered R) → HasTaken named ends gathered → length named ≡ length ends
    files_length named ends gathered had =
        zip_length (IsEndOf opened was_read) named had.files.files had.files.each ∙ sym (length-map had.files.files told_end) ∙ ap length had.files.told

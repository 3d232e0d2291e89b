-- Logs that are moved out of those of all clients, one client after another.
use Rattle.std.proofs.Common.{◌≡◌, ℕ, List, [], ◌∷◌, ◌++◌, map, bytes_eq, Bool, true, false, ◌||◌, is_some, Option, Some, None, refl, sym, ap, subst, ◌∙◌, true≢false, append-nil, append_assoc}
use Rattle.std.specs.List.{AllByRecursion, list_any}
use Rattle.std.specs.Map.{lookup}
use Rattle.indexmap.specs.IndexMap.{insert_all, insert_entry}
use Rattle.upload_reader.specs.Upload.{UploadState}
use Rattle.lanes_in_turn.specs.Round.{clients_of, has_twice, log_before, resumed_upload}
use Rattle.lanes_in_turn.specs.Taking.{begun_lane, new_lane}
use Rattle.lanes_in_turn.specs.declared.gathered.LaneResult.{LaneResult}
use Rattle.replay_folder.specs.inside.{HasClient, IsSameBehind}
use Rattle.replay_folder.proofs.AmongLaws.{put_over}

both_none : (a b : Bool) → (a || b) ≡ false → (a ≡ false) × (b ≡ false)
both_none false b none = (refl, none)
both_none true b none = absurd (true≢false none)

pub no_value : {X : Type 0} (found : Option X) → is_some found ≡ false → found ≡ None
no_value None none = refl
no_value (Some x) none = absurd (true≢false none)

pub no_some : {X : Type 0} (found : Option X) → is_some found ≡ true → found ≡ None → ⊥
no_some found some none = true≢false (sym some ∙ ap is_some none)

abbrev pub Lanes : Type 0 → Type 0
Lanes R = List (List ℕ × LaneResult R)

module _ {R : Type 0} where
  abbrev pub found_in : Lanes R → List ℕ → Option (LaneResult R)
  found_in lanes client = lookup (bytes_eq client) lanes

  -- ---- one client

  -- a lane was put in the place of the client's
  pub same_behind : (old new : Lanes R) (client : List ℕ) (lane : LaneResult R) → HasClient old client → new ≡ insert_entry bytes_eq old client lane → IsSameBehind (client ∷ []) old new
  same_behind old new client lane has put = λ entries also. ap (λ all. insert_all bytes_eq all entries) put ∙ put_over old entries client lane has also.0

  -- ---- one after another

  module _ (quota : ℕ) (first : Lanes R) (all : List (UploadState R)) where
    -- those of the uploads that are left are as they were
    pub record IsMoving (now : Lanes R) (left : List (UploadState R)) (lanes : Lanes R) : Type 0 where
      pub lanes_are : lanes ++ map (begun_lane (found_in first) quota) left ≡ map (begun_lane (found_in first) quota) all
      pub known : AllByRecursion (λ upload. found_in now upload.client ≡ found_in first upload.client) left
      pub apart : has_twice (clients_of left) ≡ false
      pub own : (entries : Lanes R) → AllByRecursion (HasClient entries) (clients_of all) → AllByRecursion (HasClient entries) (clients_of left)
      pub same : IsSameBehind (clients_of all) first now

    as_first : (uploads : List (UploadState R)) → AllByRecursion (λ upload. found_in first upload.client ≡ found_in first upload.client) uploads
    as_first [] = tt
    as_first (upload ∷ uploads) = (refl, as_first uploads)

    pub none_moved : has_twice (clients_of all) ≡ false → (lanes : Lanes R) → lanes ≡ [] → IsMoving first all lanes
    none_moved apart lanes none = record {
      lanes_are = ap (λ before. before ++ map (begun_lane (found_in first) quota) all) none;
      known = as_first all;
      apart = apart;
      own = λ entries has. has;
      same = λ entries has. refl;
    }

    others_known : (now next : Lanes R) (client : List ℕ) (uploads : List (UploadState R)) → ((other : List ℕ) → bytes_eq client other ≡ false → found_in next other ≡ found_in now other)
        → list_any (bytes_eq client) (clients_of uploads) ≡ false → AllByRecursion (λ upload. found_in now upload.client ≡ found_in first upload.client) uploads
        → AllByRecursion (λ upload. found_in next upload.client ≡ found_in first upload.client) uploads
    others_known now next client [] others apart known = tt
    others_known now next client (upload ∷ uploads) others apart known =
        let (differs, rest) = both_none _ _ apart in (others upload.client differs ∙ known.0, others_known now next client uploads others rest known.1)

    moved_here : (now next : Lanes R) (upload : UploadState R) (left : List (UploadState R)) (lanes more : Lanes R) (lane : List ℕ × LaneResult R) → IsMoving now (upload ∷ left) lanes
        → lane ≡ begun_lane (found_in now) quota upload
        → ((other : List ℕ) → bytes_eq upload.client other ≡ false → found_in next other ≡ found_in now other) → IsSameBehind (upload.client ∷ []) now next
        → more ≡ lanes ++ lane ∷ [] → IsMoving next left more
    moved_here now next upload left lanes more lane had is others same longer =
        let begun = begun_lane (found_in first) quota in
        let (alone, apart) = both_none _ _ had.apart in
        let one : lane ≡ begun upload =
        is ∙ ap (λ found. (upload.client, new_lane (log_before quota upload found) (resumed_upload upload found))) had.known.0 in record {
          lanes_are = ap (λ all. all ++ map begun left) (longer ∙ ap (λ lane. lanes ++ lane ∷ []) one) ∙ append_assoc lanes (begun upload ∷ []) (map begun left) ∙ had.lanes_are;
          known = others_known now next upload.client left others alone had.known.1;
          apart = apart;
          own = λ entries has. (had.own entries has).1;
          same = λ entries has. same entries ((had.own entries has).0, tt) ∙ had.same entries has;
        }

    pub one_moved : (now next : Lanes R) (upload : UploadState R) (left rest : List (UploadState R)) (lanes more : Lanes R) (lane : List ℕ × LaneResult R) → rest ≡ upload ∷ left → IsMoving now rest lanes
        → lane ≡ begun_lane (found_in now) quota upload
        → ((other : List ℕ) → bytes_eq upload.client other ≡ false → found_in next other ≡ found_in now other) → IsSameBehind (upload.client ∷ []) now next
        → more ≡ lanes ++ lane ∷ [] → IsMoving next left more
    one_moved now next upload left rest lanes more lane split had = moved_here now next upload left lanes more lane (subst (λ uploads. IsMoving now uploads lanes) split had)

    pub all_moved : (now : Lanes R) (left : List (UploadState R)) (lanes : Lanes R) → left ≡ [] → IsMoving now left lanes → lanes ≡ map (begun_lane (found_in first) quota) all
    all_moved now left lanes none had = sym (append-nil lanes) ∙ ap (λ uploads. lanes ++ map (begun_lane (found_in first) quota) uploads) (sym none) ∙ had.lanes_are

-- What following a schedule keeps, lane by lane.
use Rattle.std.proofs.Common.{◌≡◌, ◌≢◌, ℕ, zero, suc, ◌+◌, ◌≤◌, ◌<◌, List, [], ◌∷◌, ◌++◌, length, map, take, drop, set, get_or, is_some, Bool, true, false, ◌||◌, ◌&&◌, ◌==◌, if◌then◌else◌, bytes_eq, slice_get, Option, Some, None, inl, inr, ◌⊎◌, refl, sym, ap, subst, ◌∙◌, arith, true≢false}
use Rattle.std.proofs.lemmas.Bool.Decides.{nat_tests}
use Rattle.std.proofs.lemmas.List.{length-map, length-set, get_or-set_same, get_or-set_other}
use Rattle.std.proofs.lemmas.List.Sums.{count_by_more_yes, count_by_more_no}
use Rattle.std.proofs.lemmas.Option.{slice_get_within, slice_get-get_or, get_or_from_slice_get, slice_get-map}
use Rattle.std.proofs.Math.Seq.{take-append_seam}
use Rattle.std.specs.List.{AllByRecursion, list_any}
use Rattle.std.specs.Option.{option_map, option_map_or}
use Rattle.indexmap.specs.IndexMap.{set_value_at}
use Rattle.byte_streams.proofs.ReadingLaws.{reads_none}
use Rattle.byte_streams.specs.CompleteLines.{complete_lines}
use Rattle.byte_streams.specs.Reading.{input}
use Rattle.byte_streams.specs.declared.fault.LineFault.{LineFault}
use Rattle.upload_reader.specs.Limits.{max_line_bytes}
use Rattle.upload_reader.specs.Stream.{Costed, Stream, IsSaid, UnlessHad, IsStreamOf, BeginsWith, messages_in, line_end, stop_end}
use Rattle.upload_reader.specs.Upload.{UploadState, IsUntouched, GivesFirst, lane_bytes}
use Rattle.upload_reader.specs.declared.ending.Ending.{Ending}
use Rattle.upload_reader.proofs.FrontLaws.{taken_exists, passes_none}
use Rattle.upload_reader.proofs.LaneLaws.{is_stream}
use Rattle.client_log.specs.Client.{OfClient}
use Rattle.lanes_in_turn.proofs.LaneSteps.{continues_none}
use Rattle.lanes_in_turn.specs.Lane.{NotOver}
use Rattle.lanes_in_turn.specs.Round.{has_twice, clients_of, log_before, resumed_upload, without_lane, entries_of, ahead_of, IsAsked, IsTakenInTurn, IsLaneInTurn, AreTakenInTurn, without_lanes}
use Rattle.lanes_in_turn.specs.Taking.{begun_lane}
use Rattle.lanes_in_turn.specs.inside.{HasFewTaken, HaveFewTaken, IsTogether, AreTogether, one_more, only}
use Rattle.lanes_in_turn.specs.declared.gathered.Stop.TheVariants as stop
use Rattle.lanes_in_turn.specs.declared.gathered.LaneResult.{LaneResult}

-- none for any lane
abbrev pub none : ℕ → ℕ
none lane = 0

pub pick_true : {A : Type 0} (b : Bool) (x y : A) → b ≡ true → (if b then x else y) ≡ x
pick_true true x y is = refl
pick_true false x y is = absurd (true≢false (sym is))

pub pick_false : {A : Type 0} (b : Bool) (x y : A) → b ≡ false → (if b then x else y) ≡ y
pick_false true x y is = absurd (true≢false is)
pick_false false x y is = refl

and_then : (a b : Bool) → (a && b) ≡ true → b ≡ true
and_then true b is = is
and_then false b is = absurd (true≢false (sym is))

-- ---- clients

any_client : {R : Type 0} (client : List ℕ) (uploads : List (UploadState R)) → list_any (bytes_eq client) (clients_of uploads) ≡ list_any (λ upload. bytes_eq client upload.client) uploads
any_client client [] = refl
any_client client (upload ∷ uploads) = ap (λ b. bytes_eq client upload.client || b) (any_client client uploads)

or_true : (a b : Bool) → a ≡ true → true ≡ (a || b)
or_true true b is = refl
or_true false b is = absurd (true≢false (sym is))

or_false : (a b : Bool) → a ≡ false → (a || b) ≡ b
or_false true b is = absurd (true≢false is)
or_false false b is = refl

module _ {R : Type 0} (all rest others : List (UploadState R)) (first : UploadState R) (left : has_twice (clients_of all) ≡ has_twice (clients_of rest)) (split : rest ≡ first ∷ others) where
  left_is : has_twice (clients_of all) ≡ (list_any (λ upload. bytes_eq first.client upload.client) others || has_twice (clients_of others))
  left_is = left ∙ ap (λ uploads. has_twice (clients_of uploads)) split ∙ ap (λ b. b || has_twice (clients_of others)) (any_client first.client others)

  pub twice : list_any (λ upload. bytes_eq first.client upload.client) others ≡ true → true ≡ has_twice (clients_of all)
  twice found = or_true _ (has_twice (clients_of others)) found ∙ sym left_is

  pub once : list_any (λ upload. bytes_eq first.client upload.client) others ≡ false → has_twice (clients_of all) ≡ has_twice (clients_of others)
  once none = left_is ∙ or_false _ (has_twice (clients_of others)) none

-- ---- an item is replaced

pub in_set : {X : Type 0} (xs : List X) (k j : ℕ) (y x : X) → k < length xs → slice_get (set xs k y) j ≡ Some x → ((j ≡ k) × (x ≡ y)) ⊎ ((j ≢ k) × (slice_get xs j ≡ Some x))
in_set xs k j y x within at = by (j == k) refl
  where
    by : (b : Bool) → (j == k) ≡ b → ((j ≡ k) × (x ≡ y)) ⊎ ((j ≢ k) × (slice_get xs j ≡ Some x))
    by true is =
        let same : j ≡ k = grind (arith, nat_tests, is) in
        inl (same, sym (get_or_from_slice_get (set xs k y) j x x at) ∙ ap (λ i. get_or (set xs k y) i x) same ∙ get_or-set_same xs k y x within)
    by false is =
        let other : j ≢ k = λ same. true≢false (sym (grind (arith, nat_tests, same)) ∙ is) in
        let here : j < length xs = subst (λ n. j < n) (length-set xs k y) (slice_get_within (set xs k y) j x at) in
        inr (other, slice_get-get_or xs j x here ∙ ap Some (sym (get_or-set_other xs k j y x other) ∙ get_or_from_slice_get (set xs k y) j x x at))

pub in_map : {X Y : Type 0} (f : X → Y) (xs : List X) (k : ℕ) (y : Y) → slice_get (map f xs) k ≡ Some y → (x : X) × (slice_get xs k ≡ Some x) × (f x ≡ y)
in_map {X = X} f xs k y at = by (slice_get xs k) refl
  where
    by : (found : Option X) → slice_get xs k ≡ found → (x : X) × (slice_get xs k ≡ Some x) × (f x ≡ y)
    by None is = let none : None ≡ Some y = ap (option_map f) (sym is) ∙ sym (slice_get-map f xs k) ∙ at in cc
    by (Some x) is = let some : Some (f x) ≡ Some y = ap (option_map f) (sym is) ∙ sym (slice_get-map f xs k) ∙ at in (x, is, cc)

-- what was lent as a slice of all items is what they are
pub written : {X : Type 0} (xs new : List X) (n : ℕ) → n ≡ length new → take n (new ++ drop (length new) xs) ≡ new
written xs new n is = ap (λ m. take m (new ++ drop (length new) xs)) is ∙ take-append_seam new (drop (length new) xs)

pub all_at : {X : Type 0} (P : X → Type 0) (xs : List X) (k : ℕ) (x : X) → AllByRecursion P xs → slice_get xs k ≡ Some x → P x
all_at P [] k x all at = cc
all_at P (y ∷ ys) zero x all at = let same : y ≡ x = cc in subst P same all.0
all_at P (y ∷ ys) (suc k) x all at = all_at P ys k x all.1 at

-- ---- the entries of a schedule

more_here : (k : ℕ) (asked : ℕ → ℕ) → one_more k asked k ≡ asked k + 1
more_here k asked = pick_true (k == k) (asked k + 1) (asked k) (grind (arith, nat_tests))

more_there : (k j : ℕ) (asked : ℕ → ℕ) → j ≢ k → one_more k asked j ≡ asked j
more_there k j asked other = pick_false (k == j) (asked j + 1) (asked j) (grind (arith, nat_tests, other))

pub entries_more : (schedule : List ℕ) (n : ℕ) → n < length schedule → (j : ℕ) → one_more (get_or schedule n 0) (entries_of (take n schedule)) j ≡ entries_of (take (n + 1) schedule) j
entries_more schedule n within j = by (get_or schedule n 0 == j) refl
  where
    k : ℕ
    k = get_or schedule n 0

    by : (b : Bool) → (k == j) ≡ b → one_more k (entries_of (take n schedule)) j ≡ entries_of (take (n + 1) schedule) j
    by true is = pick_true (k == j) _ _ is ∙ sym (count_by_more_yes (λ entry. entry == j) schedule n 0 within is)
    by false is = pick_false (k == j) _ _ is ∙ sym (count_by_more_no (λ entry. entry == j) schedule n 0 within is)

-- the entry at which memory was refused
pub only_there : (schedule : List ℕ) (n : ℕ) → n < length schedule → (j : ℕ) → only (get_or schedule n 0) j ≡ ahead_of schedule n stop.Memory j
only_there schedule n within j = ap (λ entry. if option_map_or (λ e. e == j) entry false then 1 else 0) (sym (slice_get-get_or schedule n 0 within))

-- ---- a lane of which nothing was given

pub nothing_first : {R : Type 0} (upload : UploadState R) → upload.given ≡ [] → GivesFirst upload
nothing_first {R = R} upload fresh more ending = by upload.lane.fault refl
  where
    bytes : List ℕ
    bytes = lane_bytes upload (input upload.lines ++ more)

    First : Type 0
    First = (stream : Stream) × IsStreamOf upload.lane bytes ending stream × BeginsWith upload.given stream.messages

    front : (messages : List Costed) → BeginsWith upload.given messages
    front messages = rw fresh refl

    by : (had : Option LineFault) → upload.lane.fault ≡ had → First
    by None none =
        let lane = upload.lane in
        let (lines, end, taken, extra, same) = taken_exists max_line_bytes (line_end lane) (stop_end lane) bytes ending [] (complete_lines bytes) (passes_none max_line_bytes (line_end lane) (stop_end lane)) refl in
        let stream : Stream = record { messages = messages_in lines; end = end } in
        (stream, is_stream lane bytes ending stream none (record { front = lines; taken = taken; messages = refl }), front stream.messages)
    by (Some had) some =
        let stream : Stream = record { messages = []; end = stop_end upload.lane [] had } in
        (stream, subst (λ fault. UnlessHad fault upload.lane stream (IsSaid upload.lane bytes ending stream)) (sym some) refl, front [])

-- ---- lanes

pub few_set : {R : Type 0} (lanes : List (List ℕ × LaneResult R)) (k : ℕ) (lane : List ℕ × LaneResult R) → k < length lanes → HaveFewTaken lanes → HasFewTaken lane.1
    → HaveFewTaken (set lanes k lane)
few_set lanes k lane within few here j one at = elim (in_set lanes k j lane one within at) [
  | inl (same, is) ↦ subst (λ l. HasFewTaken l.1) (sym is) here
  | inr (other, there) ↦ few j one there
]

pub together_set : {R : Type 0} (lanes : List (List ℕ × LaneResult R)) (k : ℕ) (lane : List ℕ × LaneResult R) → k < length lanes → AreTogether lanes → IsTogether lane.1
    → AreTogether (set lanes k lane)
together_set lanes k lane within together here j one at = elim (in_set lanes k j lane one within at) [
  | inl (same, is) ↦ subst (λ l. IsTogether l.1) (sym is) here
  | inr (other, there) ↦ together j one there
]

pub few_begun : {R : Type 0} (known : List ℕ → Option (LaneResult R)) (quota : ℕ) (uploads : List (UploadState R)) (lanes : List (List ℕ × LaneResult R))
    → lanes ≡ map (begun_lane known quota) uploads → HaveFewTaken lanes
few_begun known quota uploads lanes is k lane at now upload_is =
    let (upload, there, same) = in_map (begun_lane known quota) uploads k lane (ap (λ l. slice_get l k) (sym is) ∙ at) in
    let none : lane.1.taken ≡ 0 = ap (λ l. l.1.taken) (sym same) in omega (arith, none)

-- a lane of which nothing was taken
pub lane_begun : {R : Type 0} (before : OfClient) (upload : UploadState R) → upload.given ≡ [] → IsTakenInTurn before upload 0 0 (record { log = before; taken = 0; end = None; upload = Some upload })
lane_begun {R = R} before upload fresh =
    let none_given : length upload.given ≡ 0 = ap length fresh in
    record {
      is_taken = record {
        now = upload;
        upload_is = refl;
        own = record { client = refl; lane = refl; start = refl; reads = reads_none (NotOver upload) upload.lines upload.lines refl refl };
        first = nothing_first upload fresh;
        few = omega (arith, none_given);
        some = omega arith;
        goes_on = continues_none before;
        ends = tt;
      };
      asked_is = refl;
      ahead_is = omega (arith, none_given);
    }

module _ {R : Type 0} (known : List ℕ → Option (LaneResult R)) (quota : ℕ) (uploads : List (UploadState R)) where
  -- a lane is asked as often by both counts
  lane_asked : (asked asked' ahead ahead' : ℕ → ℕ) (j : ℕ) (lane : List ℕ × LaneResult R) → asked j ≡ asked' j → ahead j ≡ ahead' j → IsLaneInTurn known quota uploads asked ahead j lane → IsLaneInTurn known quota uploads asked' ahead' j lane
  lane_asked asked asked' ahead ahead' j lane same same_ahead is = record {
    upload = is.upload;
    upload_at = is.upload_at;
    client = is.client;
    in_turn = rw (← same, ← same_ahead) is.in_turn;
  }

  pub lanes_asked : (asked asked' ahead ahead' : ℕ → ℕ) (lanes : List (List ℕ × LaneResult R)) → ((j : ℕ) → asked j ≡ asked' j) → ((j : ℕ) → ahead j ≡ ahead' j)
      → AreTakenInTurn known quota uploads asked ahead lanes → AreTakenInTurn known quota uploads asked' ahead' lanes
  lanes_asked asked asked' ahead ahead' lanes same same_ahead are =
      record { count = are.count; each = λ j lane at. lane_asked asked asked' ahead ahead' j lane (same j) (same_ahead j) (are.each j lane at) }

  ended_more : (end : Option Ending) (asked asked' taken : ℕ) → is_some end ≡ true → asked ≤ asked' → IsAsked asked taken end → IsAsked asked' taken end
  ended_more None asked asked' taken ended more is = absurd (true≢false (sym ended))
  ended_more (Some end) asked asked' taken ended more is = omega (arith, more, is)

  -- no lane has that number
  pub lanes_past : (asked : ℕ → ℕ) (k : ℕ) (lanes : List (List ℕ × LaneResult R)) → length lanes ≤ k → AreTakenInTurn known quota uploads asked none lanes → AreTakenInTurn known quota uploads (one_more k asked) none lanes
  lanes_past asked k lanes past are = record {
    count = are.count;
    each = λ j lane at.
        let within = slice_get_within lanes j lane at in
        lane_asked asked (one_more k asked) none none j lane (sym (more_there k j asked (omega (arith, within, past)))) refl (are.each j lane at);
  }

  lanes_set : (asked asked' ahead : ℕ → ℕ) (lanes : List (List ℕ × LaneResult R)) (k : ℕ) (old : List ℕ × LaneResult R) (lane : LaneResult R) → slice_get lanes k ≡ Some old
      → AreTakenInTurn known quota uploads asked none lanes
      → ((before : OfClient) (begun : UploadState R) → IsTakenInTurn before begun (asked k) 0 old.1 → IsTakenInTurn before begun (asked' k) (ahead k) lane)
      → ((j : ℕ) (other : List ℕ × LaneResult R) → j ≢ k → IsLaneInTurn known quota uploads asked none j other → IsLaneInTurn known quota uploads asked' ahead j other)
      → AreTakenInTurn known quota uploads asked' ahead (set lanes k (old.0, lane))
  lanes_set asked asked' ahead lanes k old lane at are step others =
      let was = are.each k old at in
      let now : IsLaneInTurn known quota uploads asked' ahead k (old.0, lane) =
      record { upload = was.upload; upload_at = was.upload_at; client = was.client; in_turn = step _ _ was.in_turn } in
      record {
        count = length-set lanes k (old.0, lane) ∙ are.count;
        each = λ j one there. elim (in_set lanes k j (old.0, lane) one (slice_get_within lanes k old at) there) [
          | inl (same, is) ↦ subst (λ i. IsLaneInTurn known quota uploads asked' ahead i one) (sym same) (subst (λ o. IsLaneInTurn known quota uploads asked' ahead k o) (sym is) now)
          | inr (other, here) ↦ others j one other (are.each j one here)
        ];
      }

  -- that lane was asked once more
  pub lanes_more : (asked : ℕ → ℕ) (lanes : List (List ℕ × LaneResult R)) (k : ℕ) (old : List ℕ × LaneResult R) (lane : LaneResult R) → slice_get lanes k ≡ Some old
      → AreTakenInTurn known quota uploads asked none lanes
      → ((before : OfClient) (begun : UploadState R) → IsTakenInTurn before begun (asked k) 0 old.1 → IsTakenInTurn before begun (asked k + 1) 0 lane)
      → AreTakenInTurn known quota uploads (one_more k asked) none (set lanes k (old.0, lane))
  lanes_more asked lanes k old lane at are step =
      lanes_set asked (one_more k asked) none lanes k old lane at are
      (λ before begun was. subst (λ n. IsTakenInTurn before begun n 0 lane) (sym (more_here k asked)) (step before begun was))
      (λ j other differs is. lane_asked asked (one_more k asked) none none j other (sym (more_there k j asked differs)) refl is)

  -- its message couldn't be recorded
  pub lanes_refused : (asked : ℕ → ℕ) (lanes : List (List ℕ × LaneResult R)) (k : ℕ) (old : List ℕ × LaneResult R) (lane : LaneResult R) → slice_get lanes k ≡ Some old
      → AreTakenInTurn known quota uploads asked none lanes
      → ((before : OfClient) (begun : UploadState R) → IsTakenInTurn before begun (asked k) 0 old.1 → IsTakenInTurn before begun (asked k) 1 lane)
      → AreTakenInTurn known quota uploads asked (only k) (set lanes k (old.0, lane))
  lanes_refused asked lanes k old lane at are step =
      lanes_set asked asked (only k) lanes k old lane at are
      (λ before begun was. subst (λ n. IsTakenInTurn before begun (asked k) n lane) (sym (pick_true (k == k) 1 0 (grind (arith, nat_tests)))) (step before begun was))
      (λ j other differs is. lane_asked asked asked none (only k) j other refl (sym (pick_false (k == j) 1 0 (grind (arith, nat_tests, differs)))) is)

  -- ---- as they begin

  untouched_behind : (upload : UploadState R) (found : Option (LaneResult R)) → IsUntouched upload → (resumed_upload upload found).given ≡ []
  untouched_behind upload found untouched = untouched.given

  pub lanes_begun : (lanes : List (List ℕ × LaneResult R)) → AllByRecursion IsUntouched uploads → lanes ≡ map (begun_lane known quota) uploads → AreTakenInTurn known quota uploads (entries_of []) none lanes
  lanes_begun lanes untouched is = record {
    count = ap length is ∙ length-map uploads (begun_lane known quota);
    each = λ k lane at.
        let (upload, there, same) = in_map (begun_lane known quota) uploads k lane (ap (λ l. slice_get l k) (sym is) ∙ at) in
        let found = known upload.client in
        let now = lane_begun (log_before quota upload found) (resumed_upload upload found) (untouched_behind upload found (all_at IsUntouched uploads k upload untouched there)) in
        record {
          upload = upload;
          upload_at = there;
          client = ap (λ l. l.0) (sym same);
          in_turn = subst (λ l. IsTakenInTurn (log_before quota upload found) (resumed_upload upload found) 0 0 l.1) same now;
        };
  }

-- ---- the clients of the rounds before

module _ {R : Type 0} where
  -- once the first clients rest, the next one is as it was, and may rest
  record IsNextToRest (k : ℕ) (entries : List (List ℕ × LaneResult R)) (n : ℕ) : Type 0 where
    lane : LaneResult R
    at : slice_get (map (λ entry. entry.1) (without_lanes (take k entries) ++ drop k entries)) k ≡ Some lane
    step : set_value_at (without_lanes (take k entries) ++ drop k entries) k (without_lane lane) ≡ without_lanes (take n entries) ++ drop n entries

  next_to_rest : (k : ℕ) (entries : List (List ℕ × LaneResult R)) → k < length entries → IsNextToRest k entries (suc k)
  next_to_rest k [] within = absurd (omega (arith, within))
  next_to_rest zero (entry ∷ entries) within = record { lane = entry.1; at = refl; step = refl }
  next_to_rest (suc k) (entry ∷ entries) within =
      let rest = next_to_rest k entries (omega (arith, within)) in
      record { lane = rest.lane; at = rest.at; step = ap (λ others. (entry.0, without_lane entry.1) ∷ others) rest.step }

  pub rested_step : (k : ℕ) (entries new : List (List ℕ × LaneResult R)) → k < length entries
      → ((lane : LaneResult R) → slice_get (map (λ entry. entry.1) (without_lanes (take k entries) ++ drop k entries)) k ≡ Some lane
      → new ≡ set_value_at (without_lanes (take k entries) ++ drop k entries) k (without_lane lane))
      → new ≡ without_lanes (take (k + 1) entries) ++ drop (k + 1) entries
  rested_step k entries new within rests =
      let next : suc k ≡ k + 1 = omega arith in
      let step = subst (IsNextToRest k entries) next (next_to_rest k entries within) in
      rests step.lane step.at ∙ step.step

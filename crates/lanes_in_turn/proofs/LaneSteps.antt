-- What taking the next of a lane keeps.
use Rattle.std.proofs.Common.{◌≡◌, ℕ, ◌+◌, ◌≤◌, ◌<◌, List, [], ◌∷◌, ◌++◌, length, take, drop, true, false, is_some, Option, Some, None, refl, sym, ap, subst, ◌∙◌, arith, append_assoc, append-nil, true≢false}
use Rattle.std.specs.Result.{is_err}
use Rattle.std.proofs.lemmas.List.{length-append, map-append, take-append-drop, take_all}
use Rattle.std.specs.Prelude.{IfSome, OnOk, OnErr, Result, Ok, Err}
use Rattle.std.proofs.Math.Seq.{take-append_seam}
use Rattle.byte_streams.specs.Reading.{ReadsWhile}
use Rattle.byte_streams.proofs.ReadingLaws.{reads_then}
use Rattle.upload_reader.specs.Limits.{max_messages}
use Rattle.upload_reader.specs.Next.{next_of, IfOver}
use Rattle.upload_reader.specs.Stream.{Costed, BeginsWith, messages_of}
use Rattle.upload_reader.specs.declared.message.Message.{Message}
use Rattle.upload_reader.specs.Upload.{UploadState, GivesFirst, EndsBy, NothingMore}
use Rattle.upload_reader.specs.declared.ending.Ending.{Ending}
use Rattle.client_log.specs.Client.{OfClient}
use Rattle.client_log.specs.Log.{kept_log}
use Rattle.client_log.specs.Session.{session_of}
use Rattle.lanes_in_turn.specs.Lane.{NotOver, ReadsBeforeEnd, Continues}
use Rattle.lanes_in_turn.specs.Round.{IsAsked, IsTakenInTurn}
use Rattle.lanes_in_turn.specs.inside.{IsTogether}
use Rattle.lanes_in_turn.specs.declared.gathered.LaneResult.{LaneResult}

-- a front of a front
pub shorter_front : {A : Type 0} (xs ys all : List A) → BeginsWith (xs ++ ys) all → BeginsWith xs all
shorter_front xs ys all front =
    let rest = drop (length (xs ++ ys)) all in
    ap (take (length xs)) (sym (take-append-drop (length (xs ++ ys)) all) ∙ ap (λ part. part ++ rest) front ∙ append_assoc xs ys rest)
    ∙ take-append_seam xs (ys ++ rest)

-- ---- how often it was asked

asked_more : (asked taken : ℕ) (end : Option Ending) → is_some end ≡ false → IsAsked asked taken end → IsAsked (asked + 1) (taken + 1) end
asked_more asked taken None none is = ap (λ n. n + 1) is
asked_more asked taken (Some e) none is = absurd (true≢false none)

asked_ended : (asked taken : ℕ) (end : Option Ending) → is_some end ≡ false → IsAsked asked taken end → taken < asked + 1
asked_ended asked taken None none is = omega (arith, is)
asked_ended asked taken (Some e) none is = absurd (true≢false none)

asked_again : (asked taken : ℕ) (end : Option Ending) → is_some end ≡ true → IsAsked asked taken end → IsAsked (asked + 1) taken end
asked_again asked taken None some is = absurd (true≢false (sym some))
asked_again asked taken (Some e) some is = omega (arith, is)

no_end : (end : Option Ending) (P : Ending → Type 0) → is_some end ≡ false → IfSome end P
no_end None P none = tt
no_end (Some e) P none = absurd (true≢false none)

pub if_err : {A E : Type 0} (result : Result A E) (P : Type 0) → P → OnErr result P
if_err (Ok x) P holds = tt
if_err (Err e) P holds = holds

-- what holds where the result is so
pub on_ok : {A E : Type 0} (result : Result A E) (P : Type 0) → (((Q : Type 0) → OnOk result Q → Q) → P) → OnOk result P
on_ok (Ok x) P by = by (λ Q holds. holds)
on_ok (Err e) P by = tt

pub on_err : {A E : Type 0} (result : Result A E) (P : Type 0) → (((Q : Type 0) → OnErr result Q → Q) → P) → OnErr result P
on_err (Ok x) P by = tt
on_err (Err e) P by = by (λ Q holds. holds)

pub when_ok : {A E : Type 0} (result : Result A E) (P : Type 0) → is_err result ≡ false → OnOk result P → P
when_ok (Ok x) P is holds = holds
when_ok (Err e) P is holds = absurd (true≢false is)

pub when_err : {A E : Type 0} (result : Result A E) (P : Type 0) → is_err result ≡ true → OnErr result P → P
when_err (Ok x) P is holds = absurd (true≢false (sym is))
when_err (Err e) P is holds = holds

-- ---- what is known of a lane whose messages were all recorded that its upload gave

-- a log that one message more was recorded in
pub continues_more : (before old log : OfClient) (messages : List Costed) (one : Costed) → Continues before old messages → log.client ≡ old.client → log.quota ≡ old.quota
    → ((earlier : List Costed) → old.log ≡ kept_log old.quota earlier → log.log ≡ kept_log old.quota (earlier ++ one ∷ []))
    → ((earlier : List Costed) → old.session ≡ session_of earlier → log.session ≡ session_of (earlier ++ one ∷ []))
    → Continues before log (messages ++ one ∷ [])
continues_more before old log messages one was client quota log_is session_is = record {
  client = client ∙ was.client;
  quota = quota ∙ was.quota;
  log_is = λ earlier stood.
      subst (λ q. log.log ≡ kept_log q (earlier ++ (messages ++ one ∷ []))) was.quota
      (log_is (earlier ++ messages) (was.log_is earlier stood ∙ ap (λ q. kept_log q (earlier ++ messages)) (sym was.quota))
      ∙ ap (kept_log old.quota) (append_assoc earlier messages (one ∷ [])));
  session_is = λ earlier stood. session_is (earlier ++ messages) (was.session_is earlier stood) ∙ ap session_of (append_assoc earlier messages (one ∷ []));
}

-- a log in which nothing was recorded
pub continues_none : (before : OfClient) → Continues before before []
continues_none before = record {
  client = refl;
  quota = refl;
  log_is = λ earlier stood. stood ∙ ap (kept_log before.quota) (sym (append-nil earlier));
  session_is = λ earlier stood. stood ∙ ap session_of (sym (append-nil earlier));
}

module _ {R : Type 0} where
  pub record Given (before : OfClient) (begun : UploadState R) (lane : LaneResult R) (upload : UploadState R) : Type 0 where
    pub own : ReadsBeforeEnd begun upload
    pub count : lane.taken ≡ length upload.given
    pub goes_on : Continues before lane.log upload.given

  given_now : (before : OfClient) (begun : UploadState R) (asked : ℕ) (lane : LaneResult R) → (h : IsTakenInTurn before begun asked 0 lane) → Given before begun lane h.is_taken.now
  given_now before begun asked lane h =
      let t = h.is_taken in
      let count : lane.taken ≡ length t.now.given = omega (arith, t.some, h.ahead_is) in
      let all : take lane.taken t.now.given ≡ t.now.given = take_all lane.taken t.now.given (omega (arith, h.ahead_is)) in
      record { own = t.own; count = count; goes_on = subst (λ messages. Continues before lane.log messages) all t.goes_on }

  same_upload : (known : Option (UploadState R)) (upload upload' : UploadState R) → known ≡ Some upload → known ≡ Some upload' → upload ≡ upload'
  same_upload known upload upload' is also = cc

  pub given_of : (before : OfClient) (begun : UploadState R) (asked : ℕ) (lane : LaneResult R) (upload : UploadState R) → IsTakenInTurn before begun asked 0 lane → lane.upload ≡ Some upload
      → Given before begun lane upload
  given_of before begun asked lane upload h is =
      subst (λ u. Given before begun lane u) (same_upload lane.upload h.is_taken.now upload h.is_taken.upload_is is) (given_now before begun asked lane h)

  -- each read for one more was made before the end
  pub read_on : (begun u v : UploadState R) (given : List Costed) (ending : Option Ending) → ReadsBeforeEnd begun u
      → v ≡ record u { lines = v.lines; given = given; ending = ending } → ReadsWhile (NothingMore u) u.lines v.lines → ReadsBeforeEnd begun v
  read_on begun u v given ending before is reads = record {
    client = ap (λ upload. upload.client) is ∙ before.client;
    lane = ap (λ upload. upload.lane) is ∙ before.lane;
    start = ap (λ upload. upload.start) is ∙ before.start;
    reads = reads_then (NotOver begun) (NothingMore u) begun.lines u.lines v.lines
        (λ rest none. (u.given, rw (before.lane, before.start) at none)) before.reads reads;
  }

  -- ---- the log and the upload, side by side

  together_then : (earlier : List Message) (lane : LaneResult R) (v : UploadState R) → lane.upload ≡ Some v → v.lane.earlier ≡ earlier → lane.log.session ≡ earlier ++ messages_of v.given → IsTogether lane
  together_then earlier lane v upload_is earlier_is session now now_is =
      let same : v ≡ now = same_upload lane.upload v now upload_is now_is in
      subst (λ u. lane.log.session ≡ u.lane.earlier ++ messages_of u.given) same (session ∙ ap (λ e. e ++ messages_of v.given) (sym earlier_is))

  -- a message more was given and recorded
  pub together_more : (lane new : LaneResult R) (u v : UploadState R) (one : Costed) → IsTogether lane → lane.upload ≡ Some u → new.upload ≡ Some v → v ≡ record u { lines = v.lines; given = u.given ++ one ∷ []; ending = None }
      → new.log.session ≡ lane.log.session ++ one.0 ∷ [] → IsTogether new
  together_more lane new u v one was upload_is new_is is session =
      let given : v.given ≡ u.given ++ one ∷ [] = ap (λ upload. upload.given) is in
      together_then u.lane.earlier new v new_is (ap (λ upload. upload.lane.earlier) is)
      (session ∙ ap (λ s. s ++ one.0 ∷ []) (was u upload_is) ∙ append_assoc u.lane.earlier (messages_of u.given) (one.0 ∷ [])
      ∙ ap (λ all. u.lane.earlier ++ all) (sym (map-append (λ costed. costed.0) u.given (one ∷ []))) ∙ ap (λ all. u.lane.earlier ++ messages_of all) (sym given))

  -- it gave no more
  pub together_still : (lane new : LaneResult R) (u v : UploadState R) (ending : Option Ending) → IsTogether lane → lane.upload ≡ Some u → new.upload ≡ Some v → v ≡ record u { lines = v.lines; given = u.given ++ []; ending = ending }
      → new.log ≡ lane.log → IsTogether new
  together_still lane new u v ending was upload_is new_is is log =
      let given : v.given ≡ u.given = ap (λ upload. upload.given) is ∙ append-nil u.given in
      together_then u.lane.earlier new v new_is (ap (λ upload. upload.lane.earlier) is)
      (ap (λ l. l.session) log ∙ was u upload_is ∙ ap (λ all. u.lane.earlier ++ messages_of all) (sym given))

  -- ---- the steps

  module _ (before : OfClient) (begun : UploadState R) (asked : ℕ) (lane : LaneResult R) (h : IsTakenInTurn before begun asked 0 lane) where
    -- a lane that has ended stays as it is
    pub stays : is_some lane.end ≡ true → IsTakenInTurn before begun (asked + 1) 0 lane
    stays ended = record { is_taken = h.is_taken; asked_is = asked_again asked lane.taken lane.end ended h.asked_is; ahead_is = h.ahead_is }

    module _ (u v : UploadState R) (upload_is : lane.upload ≡ Some u) (going : is_some lane.end ≡ false) (reads : ReadsWhile (NothingMore u) u.lines v.lines) (first : GivesFirst v) (few : length v.given ≤ max_messages) where
      known : Given before begun lane u
      known = given_of before begun asked lane u h upload_is

      -- a message more was recorded
      pub took : (one : Costed) (log : OfClient) → v ≡ record u { lines = v.lines; given = u.given ++ one ∷ []; ending = None }
          → log.client ≡ lane.log.client → log.quota ≡ lane.log.quota
          → ((messages : List Costed) → lane.log.log ≡ kept_log lane.log.quota messages → log.log ≡ kept_log lane.log.quota (messages ++ one ∷ []))
          → ((messages : List Costed) → lane.log.session ≡ session_of messages → log.session ≡ session_of (messages ++ one ∷ []))
          → IsTakenInTurn before begun (asked + 1) 0 (record { log = log; taken = lane.taken + 1; end = lane.end; upload = Some v })
      took one log is client quota log_is session_is =
          let given : v.given ≡ u.given ++ one ∷ [] = ap (λ upload. upload.given) is in
          let size : length v.given ≡ length u.given + 1 = ap length given ∙ length-append u.given (one ∷ []) in
          let all : take (lane.taken + 1) v.given ≡ u.given ++ one ∷ [] = take_all (lane.taken + 1) v.given (omega (arith, size, known.count)) ∙ given in
          let goes_on = continues_more before lane.log log u.given one known.goes_on client quota log_is session_is in
          record {
            is_taken = record {
              now = v;
              upload_is = refl;
              own = read_on begun u v (u.given ++ one ∷ []) None known.own is reads;
              first = first;
              few = few;
              some = omega (arith, size, known.count);
              goes_on = subst (λ messages. Continues before log messages) (sym all) goes_on;
              ends = no_end lane.end _ going;
            };
            asked_is = asked_more asked lane.taken lane.end going h.asked_is;
            ahead_is = omega (arith, size, known.count);
          }

      -- a message more was given, but not recorded
      pub refused : (one : Costed) (log : OfClient) → v ≡ record u { lines = v.lines; given = u.given ++ one ∷ []; ending = None } → log ≡ lane.log
          → IsTakenInTurn before begun asked 1 (record { log = log; taken = lane.taken; end = lane.end; upload = Some v })
      refused one log is same =
          let given : v.given ≡ u.given ++ one ∷ [] = ap (λ upload. upload.given) is in
          let size : length v.given ≡ length u.given + 1 = ap length given ∙ length-append u.given (one ∷ []) in
          let front : take lane.taken v.given ≡ u.given = ap (take lane.taken) given ∙ ap (λ n. take n (u.given ++ one ∷ [])) known.count ∙ take-append_seam u.given (one ∷ []) in
          record {
            is_taken = record {
              now = v;
              upload_is = refl;
              own = read_on begun u v (u.given ++ one ∷ []) None known.own is reads;
              first = first;
              few = few;
              some = omega (arith, size, known.count);
              goes_on = subst (λ messages. Continues before log messages) (sym front) (subst (λ l. Continues before l u.given) (sym same) known.goes_on);
              ends = no_end lane.end _ going;
            };
            asked_is = h.asked_is;
            ahead_is = omega (arith, size, known.count);
          }

      -- its end was taken
      pub ended : (end : Ending) → v ≡ record u { lines = v.lines; given = u.given ++ []; ending = Some end } → IfOver (next_of end) (EndsBy v)
          → IsTakenInTurn before begun (asked + 1) 0 (record { log = lane.log; taken = lane.taken; end = Some end; upload = Some v })
      ended end is over =
          let given : v.given ≡ u.given = ap (λ upload. upload.given) is ∙ append-nil u.given in
          let size : length v.given ≡ length u.given = ap length given in
          let all : take lane.taken v.given ≡ u.given = take_all lane.taken v.given (omega (arith, size, known.count)) ∙ given in
          record {
            is_taken = record {
              now = v;
              upload_is = refl;
              own = read_on begun u v (u.given ++ []) (Some end) known.own is reads;
              first = first;
              few = few;
              some = omega (arith, size, known.count);
              goes_on = subst (λ messages. Continues before lane.log messages) (sym all) known.goes_on;
              ends = record { ending = ap (λ upload. upload.ending) is; all = known.count ∙ sym size; over = over };
            };
            asked_is = asked_ended asked lane.taken lane.end going h.asked_is;
            ahead_is = omega (arith, size, known.count);
          }

-- What threads made of names is told, one behind another.
use Rattle.std.proofs.Common.{◌≡◌, ℕ, zero, suc, ◌+◌, ◌≤◌, List, [], ◌∷◌, ◌++◌, length, take, drop, slice_get, Option, Some, Result, Ok, Err, inl, inr, refl, sym, ap, subst, ◌∙◌, arith, append-nil, append_assoc, length-append}
use Rattle.std.specs.List.{AllByRecursion, AllZip}
use Rattle.std.specs.declared.io.Error.{Error}
use Rattle.std.proofs.Math.Seq.{take-append-add}
use Rattle.std.proofs.lemmas.List.{length-take-le, take-append-drop}
use Rattle.std.proofs.lemmas.Option.{get_or_from_slice_get, slice_get_within}
use Rattle.byte_streams.specs.Answers.{Answer}
use Rattle.upload_reader.specs.Upload.{UploadState}
use Rattle.lanes_in_turn.specs.declared.gathered.Stop.TheVariants as stops
use Rattle.upload_lanes.proofs.Zips.{empty}
use Rattle.replay_folder.specs.inside.{GreetsNamed, HasTakenSoFar, IsTaking}
use Rattle.replay_folder.specs.inside.AtOnce.{IsTakenOf}
use Rattle.replay_folder.specs.inside.Stretch.{AreFilesOf, ClosesTaken, IsFileBy, IsRoundOf, MakesRoomTaken, TellsNext, TellsOne, first_lane, waiting_file}
use Rattle.replay_folder.specs.declared.drawn_files.DrawnFile.{DrawnFile}
use Rattle.replay_folder.specs.declared.drawn_files.DrawnFile.TheVariants as made
use Rattle.replay_folder.specs.declared.ends.UploadEnd.{UploadEnd}
use Rattle.replay_folder.specs.declared.ends.UploadEnd.TheVariants as upload_end
use Rattle.replay_folder.specs.declared.names.Named.{Named}
use Rattle.replay_folder.specs.declared.open_round.OpenRound.{OpenRound}
use Rattle.replay_folder.specs.declared.open_round.TakenFiles.{TakenFiles}
use Rattle.replay_folder.specs.declared.taken_round.TakenRound.{TakenRound}
use Rattle.replay_folder.proofs.TakenFilesLaws.{end_held, may_close, none_waiting, take_here, taking_closed, unread_told, upload_held}
use Rattle.replay_folder.proofs.TakenRoundLaws.{none_first}

-- ---- lists

get_here : {A : Type 0} (front : List A) (x : A) (rest : List A) → slice_get (front ++ x ∷ rest) (length front) ≡ Some x
get_here [] x rest = refl
get_here (y ∷ front) x rest = get_here front x rest

get_front : {A : Type 0} (front more : List A) (k : ℕ) (x : A) → slice_get front k ≡ Some x → slice_get (front ++ more) k ≡ Some x
get_front [] more k x at = cc
get_front (y ∷ front) more zero x at = at
get_front (y ∷ front) more (suc k) x at = get_front front more k x at

take_at : {A : Type 0} (xs : List A) (k : ℕ) (x : A) → slice_get xs k ≡ Some x → take (k + 1) xs ≡ take k xs ++ x ∷ []
take_at xs k x at = take_here xs k x (slice_get_within xs k x at) (sym (get_or_from_slice_get xs k x x at))

-- so many, and so many behind them
pub take_both : {A : Type 0} (xs : List A) (n k : ℕ) → n ≤ length xs → take (n + k) xs ≡ take n xs ++ take k (drop n xs)
take_both xs n k within =
    subst (λ (m : ℕ). take (m + k) xs ≡ take n xs ++ take k (drop n xs)) (length-take-le n xs within)
    (subst (λ l. take (length (take n xs) + k) l ≡ take n xs ++ take k (drop n xs)) (take-append-drop n xs) (take-append-add (take n xs) (drop n xs) k))

module _ {R : Type 0} (was_read : R → R → List Answer → Type 0) (opened : List ℕ → Result R Error → Type 0) (quota : ℕ) where
  abbrev Taking : List Named → OpenRound R → Type 0
  Taking = IsTaking was_read opened quota

  taking_told : (before : List Named) (named : Named) (old new : OpenRound R) (said : Result (UploadState R) UploadEnd) → GreetsNamed was_read opened named said
      → (said ≡ Err upload_end.Unopened → old.uploads.items ≡ []) → TellsOne old said new → Taking before old → Taking (before ++ named ∷ []) new
  taking_told before named old new said greets alone (inl (short, leaves)) had = unread_told was_read opened quota before named old new short leaves had
  taking_told before named old new (Err end) greets alone (inr (done, room, holds)) had = end_held was_read opened quota before named old new end greets holds done (λ shut. alone (ap Err shut)) had
  taking_told before named old new (Ok upload) greets alone (inr (done, room, holds)) had = upload_held was_read opened quota before named old new upload greets holds done room.few room.other had

  -- ---- a round whose uploads were taken already

  -- behind so many names, of which the last ones wait for its end
  pub record IsTelling (named : List Named) (round : TakenRound R) : Type 0 where
    pub waiting : OpenRound R
    pub is_round : IsRoundOf was_read quota round waiting
    pub taking : Taking named waiting

  telling_first : (named : List Named) (round : TakenRound R) → round.own.clients.entries ≡ [] → round.own.stop ≡ stops.None → round.kept.uploads.items ≡ [] → Taking named round.kept → IsTelling named round
  telling_first named round none stop uploads taking = record {
    waiting = round.kept;
    is_round = record {
      taken = refl;
      held = refl;
      own = record {
        ones = [];
        takes = subst (λ us. AllZip (λ upload. IsTakenOf (first_lane quota upload)) us []) (sym uploads) tt;
        read = tt;
        entries = none;
        stop = stop;
        new = subst (AllByRecursion _) (sym uploads) tt;
      };
    };
    taking = taking;
  }

  pub telling_closed : (named : List Named) (round : TakenRound R) (taken : TakenFiles R) → ClosesTaken was_read round taken → IsTelling named round → HasTakenSoFar was_read opened quota named taken
  telling_closed named round taken closes had =
      taking_closed was_read opened quota named had.waiting taken
      (closes quota had.waiting had.is_round had.taking.are had.taking.ready (may_close was_read opened quota named had.waiting had.taking)) had.taking

  telling_room : (named : List Named) (old new : TakenRound R) → MakesRoomTaken was_read old new → IsTelling named old → IsTelling named new
  telling_room named old new (inl same) had = subst (IsTelling named) (sym same) had
  telling_room named old new (inr (closes, is_new)) had =
      telling_first named new is_new.clients is_new.stop is_new.uploads
      (none_waiting was_read opened quota named new.kept (telling_closed named old new.kept.taken closes had) is_new.held is_new.uploads)

  telling_next : (named : List Named) (one : Named) (old new : TakenRound R) (file : DrawnFile R) (said : Result (UploadState R) UploadEnd) → GreetsNamed was_read opened one said
      → (said ≡ Err upload_end.Unopened → old.own.clients.entries ≡ []) → IsFileBy was_read quota said file → TellsNext was_read old file new → IsTelling named old → IsTelling (named ++ one ∷ []) new
  telling_next named one old new file said greets alone file_is tells had =
      let (more, is_round, told) = tells quota said had.waiting file_is had.is_round in record {
        waiting = more;
        is_round = is_round;
        taking = taking_told named one had.waiting more said greets (λ shut. none_first was_read quota _ had.waiting.uploads.items old.own had.is_round.own (alone shut)) told had.taking;
      }

  -- ---- one file behind another

  module _ (before names : List Named) (all : List (DrawnFile R)) where
    -- so many of them were told
    pub record IsToldUpTo (rest : List (DrawnFile R)) (round : TakenRound R) : Type 0 where
      pub front : List (DrawnFile R)
      pub all_are : all ≡ front ++ rest
      pub telling : IsTelling (before ++ take (length front) names) round
      pub first : front ≡ [] → round.own.clients.entries ≡ []

    pub telling_none : (round : TakenRound R) → round.own.clients.entries ≡ [] → round.own.stop ≡ stops.None → round.kept.uploads.items ≡ [] → Taking before round.kept → IsToldUpTo all round
    telling_none round none stop uploads taking = record {
      front = [];
      all_are = refl;
      telling = telling_first (before ++ []) round none stop uploads (subst (λ named. Taking named round.kept) (sym (append-nil before)) taking);
      first = λ is. none;
    }

    module _ (files : AreFilesOf was_read opened quota names all) where
      told_here : (file : DrawnFile R) (left : List (DrawnFile R)) (old room new : TakenRound R) → MakesRoomTaken was_read old room → TellsNext was_read room file new → IsToldUpTo (file ∷ left) old
          → IsToldUpTo left new
      told_here file left old room new makes tells had =
          let n = length had.front in
          let at : slice_get all n ≡ Some file = subst (λ l. slice_get l n ≡ Some file) (sym had.all_are) (get_here had.front file left) in
          let is = files n file at in
          let one_at : slice_get names n ≡ Some is.is_drawn.one = subst (λ k. slice_get names k ≡ Some is.is_drawn.one) is.number_is is.is_drawn.at in
          let count : length (had.front ++ file ∷ []) ≡ n + 1 = length-append had.front (file ∷ []) in
          let here : take (length (had.front ++ file ∷ [])) names ≡ take n names ++ is.is_drawn.one ∷ [] = ap (λ (k : ℕ). take k names) count ∙ take_at names n is.is_drawn.one one_at in
          let alone : is.drawn.said ≡ Err upload_end.Unopened → room.own.clients.entries ≡ [] = λ shut.
          let zeroth : n ≡ 0 = sym is.number_is ∙ is.is_drawn.first shut in still makes (had.first (empty had.front zeroth)) in
          let told = telling_next (before ++ take n names) is.is_drawn.one room new file is.drawn.said is.is_drawn.greets alone is.file_is tells (telling_room (before ++ take n names) old room makes had.telling) in record {
            front = had.front ++ file ∷ [];
            all_are = had.all_are ∙ sym (append_assoc had.front (file ∷ []) left);
            telling = subst (λ named. IsTelling named new) (append_assoc before (take n names) (is.is_drawn.one ∷ []) ∙ ap (λ l. before ++ l) (sym here)) told;
            first = λ none. absurd (let no : length (had.front ++ file ∷ []) ≡ 0 = ap length none in omega (arith, count, no));
          }
        where
          still : MakesRoomTaken was_read old room → old.own.clients.entries ≡ [] → room.own.clients.entries ≡ []
          still (inl same) none = ap (λ round. round.own.clients.entries) same ∙ none
          still (inr (closes, is_new)) none = is_new.clients

      pub telling_one : (file : DrawnFile R) (left rest : List (DrawnFile R)) (old room new : TakenRound R) → rest ≡ file ∷ left → MakesRoomTaken was_read old room → TellsNext was_read room file new
          → IsToldUpTo rest old → IsToldUpTo left new
      telling_one file left rest old room new is makes tells had = told_here file left old room new makes tells (subst (λ l. IsToldUpTo l old) is had)

    pub telling_all : (rest : List (DrawnFile R)) (round : TakenRound R) (taken : TakenFiles R) → rest ≡ [] → ClosesTaken was_read round taken → IsToldUpTo rest round
        → HasTakenSoFar was_read opened quota (before ++ take (length all) names) taken
    telling_all rest round taken none closes had =
        let whole : all ≡ had.front = had.all_are ∙ ap (λ l. had.front ++ l) none ∙ append-nil had.front in
        subst (λ l. HasTakenSoFar was_read opened quota (before ++ take (length l) names) taken) (sym whole) (telling_closed (before ++ take (length had.front) names) round taken closes had.telling)

  pub next_taking : (named : List Named) (next : OpenRound R) → HasTakenSoFar was_read opened quota named next.taken → next.held.items ≡ [] → next.uploads.items ≡ [] → Taking named next
  next_taking named next has held uploads = none_waiting was_read opened quota named next has held uploads

  -- ---- the last one waits, or none

  waits_by : (said : Result (UploadState R) UploadEnd) (upload : UploadState R) → IsFileBy was_read quota said (made.Waits upload) → said ≡ Ok upload
  waits_by (Ok other) upload is = ap Ok (sym is)
  waits_by (Err end) upload is = absurd is

  module _ (before names : List Named) (all front : List (DrawnFile R)) where
    pub files_front : (waits : Option (UploadState R)) → all ≡ front ++ waiting_file waits → AreFilesOf was_read opened quota names all → AreFilesOf was_read opened quota names front
    files_front waits is files = λ number file at.
        files number file (subst (λ l. slice_get l number ≡ Some file) (sym is) (get_front front (waiting_file waits) number file at))

    pub none_behind : all ≡ front ++ [] → (next : OpenRound R) → Taking (before ++ take (length front) names) next → Taking (before ++ take (length all) names) next
    none_behind is next taking = subst (λ l. Taking (before ++ take (length l) names) next) (sym (is ∙ append-nil front)) taking

    pub waits_behind : (upload : UploadState R) → all ≡ front ++ made.Waits upload ∷ [] → AreFilesOf was_read opened quota names all → (next more : OpenRound R) → next.uploads.items ≡ []
        → TellsOne next (Ok upload) more → Taking (before ++ take (length front) names) next → Taking (before ++ take (length all) names) more
    waits_behind upload is files next more none tells taking =
        let n = length front in
        let at : slice_get all n ≡ Some (made.Waits upload) = subst (λ l. slice_get l n ≡ Some (made.Waits upload)) (sym is) (get_here front (made.Waits upload) []) in
        let one = files n (made.Waits upload) at in
        let one_at : slice_get names n ≡ Some one.is_drawn.one = subst (λ k. slice_get names k ≡ Some one.is_drawn.one) one.number_is one.is_drawn.at in
        let count : length all ≡ n + 1 = ap length is ∙ length-append front (made.Waits upload ∷ []) in
        let here : take (length all) names ≡ take n names ++ one.is_drawn.one ∷ [] = ap (λ (k : ℕ). take k names) count ∙ take_at names n one.is_drawn.one one_at in
        let greets = subst (GreetsNamed was_read opened one.is_drawn.one) (waits_by one.drawn.said upload one.file_is) one.is_drawn.greets in
        subst (λ named. Taking named more) (append_assoc before (take n names) (one.is_drawn.one ∷ []) ∙ ap (λ l. before ++ l) (sym here))
        (taking_told (before ++ take n names) one.is_drawn.one next more (Ok upload) greets (λ shut. none) tells taking)

-- Rounds of uploads: as they come, and as they are let go and given back one by one.
use Rattle.std.proofs.Common.{◌≡◌, ℕ, ◌<◌, zero, suc, List, [], ◌∷◌, ◌++◌, length, map, take, drop, slice_get, Some, refl, sym, ap, subst, ◌∙◌, arith, length-append}
use Rattle.std.proofs.Math.Seq.{get_or-append_seam}
use Rattle.std.specs.List.{AllByRecursion, Any, FoldsTo}
use Rattle.std.specs.Option.{option_map}
use Rattle.std.proofs.lemmas.Option.{slice_get-map}
use Rattle.indexmap.specs.IndexMap.{set_value_at}
use Rattle.byte_streams.specs.Reading.{Reading}
use Rattle.upload_reader.specs.Upload.{UploadState, Begins, IsUntouched}
use Rattle.lanes_in_turn.specs.declared.gathered.LaneResult.{LaneResult}
use Rattle.warp_server.specs.Rounds.{without_reader}
use Rattle.warp_server.specs.program.Callers.{Sayings, IsGreeted, GivesBack, IsReadSo}
use Rattle.warp_run.specs.Run.{fresh_lines}

pub all_weaker : {X : Type 0} (P Q : X → Type 0) → ((x : X) → P x → Q x) → (xs : List X) → AllByRecursion P xs → AllByRecursion Q xs
all_weaker P Q more [] all = tt
all_weaker P Q more (x ∷ xs) all = (more x all.0, all_weaker P Q more xs all.1)

-- ---- uploads that nothing was asked of

module _ {R : Type 0} where
  pub untouched : (old : Reading R) (upload : UploadState R) → Begins old upload → IsUntouched upload
  untouched old upload begins = record { given = begins.fresh.0; ending = begins.fresh.1; place = sym begins.start }

  pub all_untouched : (uploads : List (UploadState R)) → AllByRecursion IsGreeted uploads → AllByRecursion IsUntouched uploads
  all_untouched = all_weaker IsGreeted IsUntouched (λ upload. untouched (fresh_lines upload.lines.first) upload)

  pub new_sessions : (uploads : List (UploadState R)) → AllByRecursion IsGreeted uploads → AllByRecursion (λ upload. upload.lane.earlier ≡ []) uploads
  new_sessions = all_weaker IsGreeted (λ upload. upload.lane.earlier ≡ []) (λ upload greeted. ap (λ lane. lane.earlier) greeted.lane)

-- ---- one after another

pub any_among : {X : Type 0} (P : X → Type 0) (before : List X) (x : X) (after : List X) → P x → Any P (before ++ x ∷ after)
any_among P before x after holds = (length before, x, omega (arith, length-append before (x ∷ after)), get_or-append_seam before x after x, holds)

module _ {C X : Type 0} (step : C → X → C → Type 0) where
  -- behind those the others
  pub all_more : (callers between now : C) (xs ys : List X) → FoldsTo step callers xs between → FoldsTo step between ys now → FoldsTo step callers (xs ++ ys) now
  all_more callers between now [] ys same rest = subst (λ c. FoldsTo step c ys now) (sym same) rest
  all_more callers between now (x ∷ xs) ys (next, one, first) rest = (next, one, all_more next between now xs ys first rest)

-- each that was given back was read so
pub all_read : {C R : Type 0} (says : Sayings C R) (callers now : C) (uploads : List (UploadState R)) → FoldsTo (GivesBack says) callers uploads now
    → AllByRecursion (IsReadSo says.was_read) uploads
all_read says callers now [] back = tt
all_read says callers now (upload ∷ uploads) (next, (reader, read, takes), rest) = ((reader, read), all_read says next now uploads rest)

-- ---- entries that are let go one by one, and their uploads

module _ {R : Type 0} where
  -- the first k of these were let go
  abbrev pub gone : ℕ → List (List ℕ × LaneResult R) → List (List ℕ × LaneResult R)
  gone k entries = map (λ entry. (entry.0, without_reader entry.1)) (take k entries) ++ drop k entries

  pub there : (k : ℕ) (entries : List (List ℕ × LaneResult R)) → k < length entries → (entry : List ℕ × LaneResult R) × (slice_get entries k ≡ Some entry)
  there k [] within = absurd (omega (arith, within))
  there zero (entry ∷ entries) within = (entry, refl)
  there (suc k) (entry ∷ entries) within = there k entries (omega (arith, within))

  -- the next one is as it was, and is let go then
  pub next_gone : (k : ℕ) (entries : List (List ℕ × LaneResult R)) (entry : List ℕ × LaneResult R) → slice_get entries k ≡ Some entry
      → (slice_get (gone k entries) k ≡ Some entry) × (set_value_at (gone k entries) k (without_reader entry.1) ≡ gone (suc k) entries)
      × (take (suc k) entries ≡ take k entries ++ entry ∷ [])
  next_gone k [] entry at = cc
  next_gone zero (first ∷ entries) entry at =
      let same : first ≡ entry = cc in (at, ap (λ e. (first.0, without_reader e.1) ∷ entries) (sym same), ap (λ e. e ∷ []) same)
  next_gone (suc k) (first ∷ entries) entry at =
      let (still, then, more) = next_gone k entries entry at in
      (still, ap (λ rest. (first.0, without_reader first.1) ∷ rest) then, ap (λ rest. first ∷ rest) more)

  pub same_lane : (entries : List (List ℕ × LaneResult R)) (k : ℕ) (lane : LaneResult R) (entry : List ℕ × LaneResult R)
      → slice_get (map (λ e. e.1) entries) k ≡ Some lane → slice_get entries k ≡ Some entry → lane ≡ entry.1
  same_lane entries k lane entry is at =
      let same : Some lane ≡ Some entry.1 = sym is ∙ slice_get-map (λ e. e.1) entries k ∙ ap (option_map (λ e. e.1)) at in cc

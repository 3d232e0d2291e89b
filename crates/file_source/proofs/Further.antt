-- One read more of a file, and a file that was read to its end.
use Rattle.std.proofs.Common.{◌≡◌, ℕ, ◌+◌, ◌≤◌, ◌⊎◌, inl, inr, List, [], ◌∷◌, ◌++◌, length, take, drop, Bool, true, false, cond, ◌||◌, ◌==◌, if◌then◌else◌, nat_le, find, is_none, unwrap_or, Option, Some, None, refl, sym, ap, subst, ◌∙◌, arith}
use Rattle.std.specs.List.{list_any}
use Rattle.std.specs.Option.{option_map_or}
use Rattle.std.specs.Io.KnownBytes.{Consumes, IsAtEnd}
use Rattle.std.proofs.lemmas.Bool.{false≢true, or_cases, or_right, eqb-true}
use Rattle.std.proofs.lemmas.List.{flat_map_more, take-append-drop, drop-drop, drop-take, take-take, take_all, drop_all, length-append, length-take-le}
use Rattle.std.proofs.lemmas.List.Folds.{list_any-append}
use Rattle.std.proofs.lemmas.List.Sums.{fold_push}
use Rattle.byte_streams.specs.Answers.{Answer, bytes_of, moves_nothing, ended_as}
use Rattle.byte_streams.specs.Cutting.{ending_of}
use Rattle.byte_streams.specs.Limits.{max_reads}
use Rattle.byte_streams.specs.declared.source.Last.{Last}
use Rattle.byte_streams.specs.declared.source.Last.TheVariants.{Fresh, Bytes, Nothing}
use Rattle.byte_streams.specs.declared.fault.LineFault.{LineFault}
use Rattle.byte_streams.specs.declared.fault.LineFault.TheVariants.{ReadFailed, Truncated, TooManyReads}
use Rattle.file_source.specs.Source.{ReadFile, unread_of}
use Rattle.file_source.specs.inside.{gave_nothing, IsReadUpTo}

-- ---- answers

bytes_more : (answers : List Answer) (bytes : List ℕ) → bytes_of (answers ++ Some bytes ∷ []) ≡ bytes_of answers ++ bytes
bytes_more answers bytes = sym (flat_map_more (λ (answer : Answer). unwrap_or answer []) [] answers (Some bytes))

any_here : (a : Answer) (answers : List Answer) (answer : Answer) (moves : Bool) → moves_nothing a ≡ moves
    → cond moves (Some a) (find moves_nothing answers) ≡ Some answer → is_none answer ≡ false
    → (find moves_nothing answers ≡ Some answer → is_none answer ≡ false → list_any gave_nothing answers ≡ true)
    → list_any gave_nothing (a ∷ answers) ≡ true
any_here a answers answer true is found given more =
    let same : a ≡ answer = cc found in
    rw (is, same, given) refl
any_here a answers answer false is found given more = or_right (gave_nothing a) (list_any gave_nothing answers) (more found given)

any_where_found : (answers : List Answer) (answer : Answer) → find moves_nothing answers ≡ Some answer → is_none answer ≡ false
    → list_any gave_nothing answers ≡ true
any_where_found [] answer found given = absurd (cc found)
any_where_found (a ∷ answers) answer found given = any_here a answers answer (moves_nothing a) refl found given
    (any_where_found answers answer)

kind_is : (answer : Answer) (none : Bool) → is_none answer ≡ none
    → ◌≡◌ {A = Option LineFault} (Some (if none then ReadFailed else Truncated)) (Some Truncated) → is_none answer ≡ false
kind_is answer true is ending = absurd (cc ending)
kind_is answer false is ending = is

ended_where_found : (answers : List Answer) (found : Option Answer) (over : Bool) → find moves_nothing answers ≡ found
    → option_map_or (λ answer. Some (if is_none answer then ReadFailed else Truncated)) found
    (if over then Some TooManyReads else None) ≡ Some Truncated
    → list_any gave_nothing answers ≡ true
ended_where_found answers None true is ending = absurd (cc ending)
ended_where_found answers None false is ending = absurd (cc ending)
ended_where_found answers (Some answer) over is ending =
    any_where_found answers answer is (kind_is answer (is_none answer) refl ending)

pub gave_nothing_at_end : (answers : List Answer) → ending_of answers ≡ Some Truncated → list_any gave_nothing answers ≡ true
gave_nothing_at_end answers ending =
    ended_where_found answers (find moves_nothing answers) (nat_le max_reads (length answers)) refl ending

-- ---- the file

further : (seen : List ℕ) (place count : ℕ) → take (place + count) seen ≡ take place seen ++ take count (drop place seen)
further seen place count =
    let both = take-append-drop place (take (place + count) seen) in
    sym both ∙ ap (λ front. front ++ drop place (take (place + count) seen)) (take-take place (place + count) seen (omega arith))
    ∙ ap (λ rest. take place seen ++ rest) (drop-take place count seen)

module _ {F : Type 0} (seen : F → List ℕ) (lost : F → Bool) (old new : F) (answers : List Answer) (place : ℕ) (last : Last)
    (to : IsReadUpTo seen lost old answers place last) (same : seen new ≡ seen old) (sound : lost new ≡ lost old)
    (buf : List ℕ) (count : ℕ) (fits : count ≤ length buf)
    (bytes : lost old ≡ false → take count buf ≡ take count (drop place (seen old)))
    (end : count ≡ 0 → length (seen old) ≤ place) where
  long : length (take count buf) ≡ count
  long = length-take-le count buf fits

  ended_behind : (list_any gave_nothing answers ≡ true) ⊎ (gave_nothing (Some (take count buf)) ≡ true)
      → length (seen new) ≤ place + count
  ended_behind (inl before) = omega (arith, to.ended before, ap length same)
  ended_behind (inr here) = omega (arith, end (sym long ∙ eqb-true (length (take count buf)) 0 here), ap length same)

  pub read_more : (now : Last) → now ≡ (if count == 0 then Nothing else Bytes)
      → IsReadUpTo seen lost new (answers ++ Some (take count buf) ∷ []) (place + count) now
  read_more now is = record {
    place_is = omega (arith, to.place_is, ap length (bytes_more answers (take count buf)), length-append (bytes_of answers) (take count buf), long);
    last_is = is ∙ sym (fold_push (λ before answer. ended_as answer) Fresh answers (Some (take count buf))
        ∙ ap (λ n. if n == 0 then Nothing else Bytes) long);
    front = λ now_sound.
        let old_sound = sym sound ∙ now_sound in
        ap (take (place + count)) same ∙ further (seen old) place count
        ∙ ap (λ front. front ++ take count (drop place (seen old))) (to.front old_sound)
        ∙ ap (λ rest. bytes_of answers ++ rest) (sym (bytes old_sound)) ∙ sym (bytes_more answers (take count buf));
    ended = λ nothing. ended_behind
        (elim (or_cases (list_any gave_nothing answers) (gave_nothing (Some (take count buf)) || false)
        (sym (list_any-append gave_nothing answers (Some (take count buf) ∷ [])) ∙ nothing)) [
          | inl before ↦ inl before
          | inr here ↦ elim (or_cases (gave_nothing (Some (take count buf))) false here) [
            | inl nothing_here ↦ inr nothing_here
            | inr never ↦ absurd (false≢true never)
          ]
        ]);
  }

-- ---- the bytes that are left

abbrev left : Bool → List ℕ → ℕ → Option (List ℕ)
left is_lost seen place = if is_lost then None else Some (drop place seen)

consumed : (is_lost : Bool) (seen bytes : List ℕ) (place : ℕ) → (is_lost ≡ false → bytes ≡ take (length bytes) (drop place seen))
    → Consumes (left is_lost seen place) (left is_lost seen (place + length bytes)) bytes
consumed true seen bytes place is = tt
consumed false seen bytes place is =
    sym (take-append-drop (length bytes) (drop place seen))
    ∙ ap (λ front. front ++ drop (length bytes) (drop place seen)) (sym (is refl))
    ∙ ap (λ rest. bytes ++ rest) (drop-drop (length bytes) place seen)

at_end : (is_lost : Bool) (seen : List ℕ) (place : ℕ) → length seen ≤ place → IsAtEnd (left is_lost seen place)
at_end true seen place past = tt
at_end false seen place past = drop_all place seen past

module _ {F : Type 0} (seen : F → List ℕ) (lost : F → Bool) (old new : ReadFile F) (buf : List ℕ) (count : ℕ)
    (same : seen new.file ≡ seen old.file) (sound : lost new.file ≡ lost old.file)
    (told : new.answers ≡ old.answers ++ Some (take count buf) ∷ []) (fits : count ≤ length buf) where
  new_left : unread_of seen lost new ≡ left (lost old.file) (seen old.file) (length (bytes_of old.answers) + length (take count buf))
  new_left =
      let behind = ap (λ answers. length (bytes_of answers)) told ∙ ap length (bytes_more old.answers (take count buf))
      ∙ length-append (bytes_of old.answers) (take count buf) in
      ap (λ b. left b (seen new.file) (length (bytes_of new.answers))) sound
      ∙ ap (λ s. left (lost old.file) s (length (bytes_of new.answers))) same
      ∙ ap (left (lost old.file) (seen old.file)) behind

  pub read_consumes : (lost old.file ≡ false → take count buf ≡ take count (drop (length (bytes_of old.answers)) (seen old.file)))
      → Consumes (unread_of seen lost old) (unread_of seen lost new) (take count buf)
  read_consumes bytes =
      let long = length-take-le count buf fits in
      subst (λ after. Consumes (unread_of seen lost old) after (take count buf)) (sym new_left)
      (consumed (lost old.file) (seen old.file) (take count buf) (length (bytes_of old.answers))
      (λ is. bytes is ∙ ap (λ n. take n (drop (length (bytes_of old.answers)) (seen old.file))) (sym long)))

  pub read_ends : length (seen old.file) ≤ length (bytes_of old.answers) → IsAtEnd (unread_of seen lost new)
  read_ends past =
      subst IsAtEnd (sym new_left)
      (at_end (lost old.file) (seen old.file) (length (bytes_of old.answers) + length (take count buf)) (omega arith))

-- ---- the whole file

pub whole_read : {F : Type 0} (seen : F → List ℕ) (lost : F → Bool) (file : F) (answers : List Answer) (place : ℕ) (last : Last)
    → IsReadUpTo seen lost file answers place last → lost file ≡ false → ending_of answers ≡ Some Truncated
    → seen file ≡ bytes_of answers
whole_read seen lost file answers place last to sound ending =
    sym (take_all place (seen file) (to.ended (gave_nothing_at_end answers ending))) ∙ to.front sound
